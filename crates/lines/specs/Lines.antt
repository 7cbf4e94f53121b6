-- The lines of a byte string.
use Rattle.std.specs.Prelude.{◌≡◌, ℕ, ◌<◌, if◌then◌else◌, ◌⊎◌, List, [], ◌∷◌, ◌++◌, length, codes, ◌==◌, All, Contains}
use Rattle.std.specs.Str.{byte}
use Rattle.tag.specs.Components.{onto}
use Rattle.tag.specs.Fronts.{Ends}

-- What stands before each newline, and what stands after the last one unless it is empty.
unfoldable pub lines : List ℕ → List (List ℕ)
lines [] = []
lines (b ∷ s) = if b == byte "\n" then [] ∷ lines s else onto b (lines s)

-- These lines, a newline after each.
abbrev pub ended : List (List ℕ) → List ℕ
ended [] = []
ended (l ∷ ls) = l ++ (byte "\n" ∷ ended ls)

-- With a newline after each they are s, or s and one newline more where s has bytes and does not end in a newline.
abbrev pub Joins : List ℕ → List (List ℕ) → Type 0
Joins s ls =
    (ended ls ≡ s) ⊎ ((ended ls ≡ s ++ codes "\n") × (0 < length s) × ¬ Ends (codes "\n") s)

-- What makes these the lines of s.
pub record AreLines (s : List ℕ) (ls : List (List ℕ)) : Type 0 where
  pub joins : Joins s ls
  pub newline_free : All (λ l. ¬ Contains l (byte "\n")) ls
