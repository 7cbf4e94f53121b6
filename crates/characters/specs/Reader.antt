-- The characters of a byte string, as a function. Whole says that they are those of Standard.antt.
use Rattle.std.specs.Prelude.{◌≡◌, ℕ, zero, suc, ◌+◌, if◌then◌else◌, List, [], ◌∷◌, map, length, take, drop, Some, None, Option, ◌==◌}
use Rattle.std.specs.List.{flat_map, common_prefix_len}
use Rattle.characters.specs.declared.Part.{Part}
use Rattle.characters.specs.declared.Part.TheVariants.{Character, Replaced}
use Rattle.characters.specs.declared.Range.{Range}
use Rattle.characters.specs.Table.{table, lies_in, following_of}
use Rattle.characters.specs.Standard.{code_point_of, point, size, IsPart, Reads, pieces}

-- the part at the front of the bytes b ∷ bs, if the ranges follow the byte b
unfoldable pub part_by : ℕ → List ℕ → Option (List Range) → Part
part_by b bs None = Replaced 1
part_by b bs (Some rs) =
    if common_prefix_len lies_in bs rs == length rs
    then Character (code_point_of (b ∷ take (length rs) bs)) (1 + length rs)
    else Replaced (1 + common_prefix_len lies_in bs rs)

-- the part at the front of the bytes b ∷ bs
unfoldable pub next_part : ℕ → List ℕ → Part
next_part b bs = part_by b bs (following_of table b)

-- the part at the front, if there is a byte
abbrev pub first_part : List ℕ → Option Part
first_part [] = None
first_part (b ∷ bs) = Some (next_part b bs)

-- at most n parts
unfoldable pub parts_up_to : ℕ → List ℕ → List Part
parts_up_to zero s = []
parts_up_to (suc n) [] = []
parts_up_to (suc n) (b ∷ bs) =
    next_part b bs ∷ parts_up_to n (drop (size (next_part b bs)) (b ∷ bs))

-- a byte string has at most as many characters as bytes
unfoldable pub parts : List ℕ → List Part
parts s = parts_up_to (length s) s

-- the code points of the parts
unfoldable pub code_points : List ℕ → List ℕ
code_points s = map point (parts s)

-- the parts are those of the Standard, and what they take, joined, is the byte string
pub record Whole (s : List ℕ) : Type 0 where
  pub reads : Reads s (parts s)
  pub joins : flat_map (λ x. x) (pieces s (parts s)) ≡ s

-- the front of s gives the answer, and after is what is left of s
abbrev pub IsTaken : List ℕ → Option Part → List ℕ → Type 0
IsTaken s None after = (s ≡ []) × (after ≡ [])
IsTaken s (Some p) after = IsPart s p × (after ≡ drop (size p) s)
