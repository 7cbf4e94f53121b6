-- Table 3-7 of the Unicode Standard: the well-formed UTF-8 byte sequences.
use Rattle.std.specs.Prelude.{ℕ, ◌≤◌, Bool, if◌then◌else◌, ◌&&◌, ◌⊎◌, List, [], ◌∷◌, Some, None, Option, nat_le}
use Rattle.characters.specs.declared.Range.{Range}

infix 80 ◌to◌
-- both ends included
abbrev pub ◌to◌ : ℕ → ℕ → Range
low to high = record { low = low; high = high }

-- a row: the code points, the range of the first byte, the ranges of the bytes that follow
pub record Row : Type 0 where
  pub points_from : ℕ
  pub points_to : ℕ
  pub first : Range
  pub rest : List Range

-- a row of the table below: its code points from p to q, f for the first byte, r for those that follow
abbrev pub row : ℕ → ℕ → Range → List Range → Row
row p q f r = record { points_from = p; points_to = q; first = f; rest = r }

-- the table, row by row
abbrev pub table : List Row
table =
    row 0x0000 0x007F (0x00 to 0x7F) [] ∷
    row 0x0080 0x07FF (0xC2 to 0xDF) (0x80 to 0xBF ∷ []) ∷
    row 0x0800 0x0FFF (0xE0 to 0xE0) (0xA0 to 0xBF ∷ 0x80 to 0xBF ∷ []) ∷
    row 0x1000 0xCFFF (0xE1 to 0xEC) (0x80 to 0xBF ∷ 0x80 to 0xBF ∷ []) ∷
    row 0xD000 0xD7FF (0xED to 0xED) (0x80 to 0x9F ∷ 0x80 to 0xBF ∷ []) ∷
    row 0xE000 0xFFFF (0xEE to 0xEF) (0x80 to 0xBF ∷ 0x80 to 0xBF ∷ []) ∷
    row 0x10000 0x3FFFF (0xF0 to 0xF0) (0x90 to 0xBF ∷ 0x80 to 0xBF ∷ 0x80 to 0xBF ∷ []) ∷
    row 0x40000 0xFFFFF (0xF1 to 0xF3) (0x80 to 0xBF ∷ 0x80 to 0xBF ∷ 0x80 to 0xBF ∷ []) ∷
    row 0x100000 0x10FFFF (0xF4 to 0xF4) (0x80 to 0x8F ∷ 0x80 to 0xBF ∷ 0x80 to 0xBF ∷ []) ∷
    []

-- each byte lies in its range, and there are as many bytes as ranges
abbrev pub EachLiesIn : List ℕ → List Range → Type 0
EachLiesIn [] [] = Unit {0}
EachLiesIn [] (r ∷ rs) = ⊥
EachLiesIn (b ∷ bs) [] = ⊥
EachLiesIn (b ∷ bs) (r ∷ rs) = ((r.low ≤ b) × (b ≤ r.high)) × EachLiesIn bs rs

-- the sequence's bytes lie in the row's ranges, each in its own
abbrev pub Follows : List ℕ → Row → Type 0
Follows s r = EachLiesIn s (r.first ∷ r.rest)

-- one of the rows has the property
abbrev pub SomeRow : (Row → Type 0) → List Row → Type 0
SomeRow P [] = ⊥
SomeRow P (r ∷ rows) = P r ⊎ SomeRow P rows

-- a well-formed sequence follows one of the rows
abbrev pub WellFormed : List ℕ → Type 0
WellFormed s = SomeRow (Follows s) table

-- the same as tests

-- the byte lies in the range
abbrev pub lies_in : ℕ → Range → Bool
lies_in b r = nat_le r.low b && nat_le b r.high

-- the ranges that follow a first byte, if a row has it
abbrev pub following_of : List Row → ℕ → Option (List Range)
following_of [] b = None
following_of (r ∷ rows) b = if lies_in b r.first then Some r.rest else following_of rows b
