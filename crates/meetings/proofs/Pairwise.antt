-- The first pair of components in which two names differ decides whether they meet.
use Rattle.std.proofs.Common.{◌≡◌, ℕ, Bool, true, false, not, List, [], ◌∷◌, Option, refl}
use Rattle.std.specs.List.{find, zip}
use Rattle.std.specs.Option.{option_map_or}
use Rattle.std.specs.Str.{bytes_eq}
use Rattle.meetings.specs.Meeting.{meet_parts}

-- Whether the two of a pair differ.
abbrev pub differ : List ℕ × List ℕ → Bool
differ p = not (bytes_eq p.0 p.1)

module _ (together : List ℕ → List ℕ → Bool) where
  -- What the first pair that differs decides; where there is none, the names meet.
  abbrev pub by_first : Option (List ℕ × List ℕ) → Bool
  by_first first = option_map_or (λ p. together p.0 p.1) first true

  pub first_decides : (xs ys : List (List ℕ)) → by_first (find differ (zip xs ys)) ≡ meet_parts together xs ys
  unfolding meet_parts
  first_decides [] ys = refl
  first_decides (x ∷ xs) [] = refl
  first_decides (x ∷ xs) (y ∷ ys) = go (bytes_eq x y) refl (first_decides xs ys)
    where
      go : (b : Bool) → bytes_eq x y ≡ b → by_first (find differ (zip xs ys)) ≡ meet_parts together xs ys →
          by_first (find differ (zip (x ∷ xs) (y ∷ ys))) ≡ meet_parts together (x ∷ xs) (y ∷ ys)
      go true e others = rw e others
      go false e others = rw e refl
