-- When two names meet, where `together` says which components lie together.
use Rattle.std.specs.Prelude.{◌≡◌, ℕ, Bool, true, if◌then◌else◌, ◌⊎◌, List, [], ◌∷◌, ◌++◌, map, bytes_eq, IsTrue, ◌≢◌}
use Rattle.std.specs.Str.{byte}
use Rattle.tag.specs.Components.{components}

-- The name y goes on after x with a slash.
abbrev pub GoesOn : List ℕ → List ℕ → Type 0
GoesOn x y = (rest : List ℕ) × (y ≡ x ++ byte "/" ∷ rest)

-- a and b are the first components in which x and y differ: the components before them are the same.
pub record FirstDiffer (x y a b : List ℕ) : Type 0 where
  pub front : List (List ℕ)
  pub rest_x : List (List ℕ)
  pub rest_y : List (List ℕ)
  pub of_x : components x ≡ front ++ a ∷ rest_x
  pub of_y : components y ≡ front ++ b ∷ rest_y
  pub differ : a ≢ b

-- Two names meet when they are equal, when one goes on after the other with a slash, or when the first components in which
-- they differ lie together.
abbrev pub Meets : (List ℕ → List ℕ → Bool) → List ℕ → List ℕ → Type 0
Meets together x y =
    (x ≡ y)
    ⊎ (GoesOn x y
    ⊎ (GoesOn y x
    ⊎ ((a : List ℕ) × (b : List ℕ) × FirstDiffer x y a b × IsTrue (together a b))))

-- The same as a test, on lists of components.
unfoldable pub meet_parts : (List ℕ → List ℕ → Bool) → List (List ℕ) → List (List ℕ) → Bool
meet_parts together [] ys = true
meet_parts together (x ∷ xs) [] = true
meet_parts together (x ∷ xs) (y ∷ ys) =
    if bytes_eq x y then meet_parts together xs ys else together x y

unfoldable pub meet : (List ℕ → List ℕ → Bool) → List ℕ → List ℕ → Bool
meet together x y = meet_parts together (components x) (components y)

-- Under a key, a name's list of keys has the key of each of its components.
abbrev pub keys_under : (List ℕ → List ℕ) → List ℕ → List (List ℕ)
keys_under key x = map key (components x)
