-- Sound names: what an allowed tag name is, byte by byte.
use Rattle.std.proofs.Common.{◌≡◌, ℕ, false, List, [], ◌∷◌, ◌++◌}
use Rattle.tag.specs.Answers.Answer.{allowed}
use Rattle.tag.specs.Bytes.{last_byte, ends_in_lock}
use Rattle.tag.specs.Names.{fault_after}

-- Each byte may follow the one before it, and the first may follow a.
abbrev pub Follows : ℕ → List ℕ → Type 0
Follows a [] = Unit {0}
Follows a (b ∷ s) = (fault_after a b ≡ allowed) × Follows b s

-- With `front` before it, s has no slash and no end after .lock
abbrev pub Unlocked : List ℕ → List ℕ → Type 0
Unlocked front [] = ends_in_lock front ≡ false
Unlocked front (b ∷ s) = (b ≡ 47 → ends_in_lock front ≡ false) × Unlocked (front ++ b ∷ []) s

pub record Sound (s : List ℕ) : Type 0 where
  pub some : s ≡ [] → ⊥
  pub follows : Follows 47 s
  pub unlocked : Unlocked [] s
  pub no_slash_last : last_byte s ≡ 47 → ⊥
  pub no_dot_last : last_byte s ≡ 46 → ⊥
