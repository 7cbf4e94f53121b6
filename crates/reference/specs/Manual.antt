-- Which rules of the manual page git-check-ref-format bind which check, beyond those that bind every name.
use Rattle.std.specs.Prelude.{◌≡◌, ℕ, ◌≤◌, ◌⊎◌, List, ◌≢◌, All, Contains, codes}
use Rattle.std.specs.Str.{byte}
use Rattle.tag.specs.Fronts.{Begins}
use Rattle.tag.specs.Manual.{Rules}

-- A partial name. Rule 2 is waived, as with the manual's option --allow-onelevel.
pub record PartialRules (s : List ℕ) : Type 0 where
  pub every : Rules s
  -- 9. not the single character @
  pub not_at : s ≢ codes "@"

-- One of A to Z, or an underscore.
abbrev pub IsCapital : ℕ → Type 0
IsCapital b = ((byte "A" ≤ b) × (b ≤ byte "Z")) ⊎ (b ≡ byte "_")

-- A complete name.
pub record CompleteRules (s : List ℕ) : Type 0 where
  pub partial : PartialRules s
  -- 2. at least one slash; a name with none, as HEAD, is one of Git's own, of A to Z and underscores
  pub level : Contains s (byte "/") ⊎ All IsCapital s

-- A branch name.
pub record BranchRules (s : List ℕ) : Type 0 where
  pub complete : CompleteRules s
  -- HEAD is no branch
  pub not_head : s ≢ codes "refs/heads/HEAD"
  -- the manual's word on --branch: no dash at the beginning of a branch name
  pub no_dash : ¬ Begins (codes "refs/heads/-") s
