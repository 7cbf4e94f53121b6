-- The components of a tree path, and what the ruling on it says of them.
use Rattle.std.specs.Prelude.{◌≡◌, ℕ, ◌⊎◌, List, [], ◌∷◌, ◌++◌, length, ◌≢◌, All}
use Rattle.tag.specs.Answers.{Answer}
use Rattle.tag.specs.Answers.Answer.{allowed, refused}
use Rattle.tag.specs.Components.{IsRelative}

-- A component that a tree path may have.
abbrev pub IsProper : List ℕ → Type 0
IsProper c = (c ≢ []) × ¬ IsRelative c

-- Of the components cs, the leftmost that is not proper has the index i, and it is refused by the number n.
pub record RefusedAt (cs : List (List ℕ)) (n i : ℕ) : Type 0 where
  pub before : List (List ℕ)
  pub component : List ℕ
  pub after : List (List ℕ)
  pub parts : cs ≡ before ++ component ∷ after
  pub index : length before ≡ i
  pub proper_before : All IsProper before
  pub why : ((n ≡ 21) × (component ≡ [])) ⊎ ((n ≡ 28) × IsRelative component)

-- The ruling on a path of the components cs: allowed where all are proper, and else refused at the leftmost that is not.
abbrev pub PathRuled : List (List ℕ) → Answer ℕ → Type 0
PathRuled cs allowed = All IsProper cs
PathRuled cs (refused n i) = RefusedAt cs n i
