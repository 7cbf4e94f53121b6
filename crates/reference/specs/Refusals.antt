-- The rules by which a reference name is refused, beyond those for tag names, each at a later place.
use Rattle.std.specs.Prelude.{◌≡◌, ℕ, ◌+◌, List, length, All, Contains, codes}
use Rattle.std.specs.Str.{byte}
use Rattle.tag.specs.Answers.{Value}
use Rattle.tag.specs.Answers.Value.{nothing, name}
use Rattle.tag.specs.Fronts.{Begins}
use Rattle.tag.specs.Refusals.{Applies}
use Rattle.reference.specs.Manual.{IsCapital}

-- The rules for a partial name: those for tag names, and then that @ alone is reserved.
pub data AppliesToPartial (s : List ℕ) : ℕ → ℕ → Value → Type 0 where
  as_tag : {place n : ℕ} {v : Value} → Applies s place n v → AppliesToPartial s place n v
  at_alone : s ≡ codes "@" → AppliesToPartial s (6 + length s) 13 (name s)

-- The rules for a complete name: then, that one with no slash is all of A to Z and underscores.
pub data AppliesToComplete (s : List ℕ) : ℕ → ℕ → Value → Type 0 where
  as_partial : {place n : ℕ} {v : Value}
      → AppliesToPartial s place n v → AppliesToComplete s place n v
  one_level : ¬ Contains s (byte "/") → ¬ All IsCapital s
      → AppliesToComplete s (7 + length s) 12 nothing

-- The rules for a branch name: then, that HEAD and what begins with a dash is no branch.
pub data AppliesToBranch (s : List ℕ) : ℕ → ℕ → Value → Type 0 where
  as_complete : {place n : ℕ} {v : Value}
      → AppliesToComplete s place n v → AppliesToBranch s place n v
  head : s ≡ codes "refs/heads/HEAD" → AppliesToBranch s (8 + length s) 13 (name s)
  dash : Begins (codes "refs/heads/-") s → AppliesToBranch s (8 + length s) 13 (name s)
