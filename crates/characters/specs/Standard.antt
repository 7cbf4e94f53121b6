-- What the Unicode Standard says of the front of a byte string, as relations.
use Rattle.std.specs.Prelude.{◌≡◌, ℕ, ◌+◌, ◌*◌, ◌%◌, ◌<◌, ◌≤◌, ◌⊎◌, List, [], ◌∷◌, ◌++◌, length, take, drop, Some, None, Option}
use Rattle.std.specs.Char.{IsScalar}
use Rattle.characters.specs.declared.Part.{Part}
use Rattle.characters.specs.declared.Part.TheVariants.{Character, Replaced}
use Rattle.characters.specs.Table.{Row, table, Follows, SomeRow, WellFormed}

-- Table 3-6 of the Standard, the distribution of bits: the low bits of the bytes, joined
abbrev pub code_point_of : List ℕ → ℕ
code_point_of [] = 0xFFFD
code_point_of (a ∷ []) = a
code_point_of (a ∷ b ∷ []) = a % 32 * 64 + b % 64
code_point_of (a ∷ b ∷ c ∷ []) = a % 16 * 4096 + b % 64 * 64 + c % 64
code_point_of (a ∷ b ∷ c ∷ d ∷ []) = a % 8 * 262144 + b % 64 * 4096 + c % 64 * 64 + d % 64
code_point_of (a ∷ b ∷ c ∷ d ∷ e ∷ rest) = 0xFFFD

-- the largest code point
abbrev pub largest_code_point : ℕ
largest_code_point = 0x10FFFF

-- a well-formed sequence begins so, and goes on
abbrev pub BeginsWellFormed : List ℕ → Type 0
BeginsWellFormed s = (more : List ℕ) × (0 < length more) × WellFormed (s ++ more)

-- the sequence follows the row, and the code point is one of the row's
abbrev pub IsOfRow : List ℕ → ℕ → Row → Type 0
IsOfRow s c r = Follows s r × (r.points_from ≤ c) × (c ≤ r.points_to)

-- the first n bytes of s are a well-formed sequence with that code point
pub record IsCharacter (s : List ℕ) (code_point n : ℕ) : Type 0 where
  pub well_formed : WellFormed (take n s)
  pub value : code_point ≡ code_point_of (take n s)
  pub row : SomeRow (IsOfRow (take n s) code_point) table

-- no front of s is well formed, and the first n bytes are the longest start of a well-formed sequence;
-- where not even the first byte is a start, that one byte is taken
pub record IsReplaced (s : List ℕ) (n : ℕ) : Type 0 where
  pub none : (m : ℕ) → WellFormed (take m s) → ⊥
  pub start : BeginsWellFormed (take n s) ⊎ ((n ≡ 1) × (BeginsWellFormed (take 1 s) → ⊥))
  pub longest : (m : ℕ) → n < m → m ≤ length s → BeginsWellFormed (take m s) → ⊥

-- the code point of a part: U+FFFD where it is replaced
abbrev pub point : Part → ℕ
point (Character c n) = c
point (Replaced n) = 0xFFFD

-- the number of bytes taken
abbrev pub size : Part → ℕ
size (Character c n) = n
size (Replaced n) = n

-- the part is a character or a replaced part, as it says
abbrev pub IsOfKind : List ℕ → Part → Type 0
IsOfKind s (Character c n) = IsCharacter s c n
IsOfKind s (Replaced n) = IsReplaced s n

-- the part stands at the front of s: it takes a byte at least, and its code point is that of a `char`
pub record IsPart (s : List ℕ) (p : Part) : Type 0 where
  pub not_empty : 1 ≤ size p
  pub inside : size p ≤ length s
  pub scalar : IsScalar (point p)
  pub kind : IsOfKind s p

-- the answer is none at the end, and else the part that stands at the front of s
abbrev pub Standard : List ℕ → Option Part → Type 0
Standard s None = s ≡ []
Standard s (Some p) = IsPart s p

-- no other part stands at the front of s
abbrev pub Only : List ℕ → Option Part → Type 0
Only s r = (p : Part) → IsPart s p → r ≡ Some p

-- the parts stand one after the other, down to the end of s
abbrev pub Reads : List ℕ → List Part → Type 0
Reads s [] = s ≡ []
Reads s (p ∷ ps) = IsPart s p × Reads (drop (size p) s) ps

-- the bytes that each part takes
abbrev pub pieces : List ℕ → List Part → List (List ℕ)
pieces s [] = []
pieces s (p ∷ ps) = take (size p) s ∷ pieces (drop (size p) s) ps
