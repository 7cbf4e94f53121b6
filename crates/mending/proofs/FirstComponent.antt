-- The first component of a byte string by how many bytes it has.
use Rattle.std.proofs.Common.{◌≡◌, ℕ, ◌+◌, ◌<◌, List, [], ◌∷◌, length, take, drop, add-one, arith}
use Rattle.tag.specs.Components.{components}
use Rattle.tag.proofs.Splitting.{before_slash, no_slash}
use Rattle.mending.specs.Steps.{FirstEnds}

-- Where it is not all, the others are those of what follows its slash.
pub first_component : (s : List ℕ) (n : ℕ) → FirstEnds s n → n < length s → components s ≡ take n s ∷ components (drop (n + 1) s)
first_component s n f l = rw add-one (before_slash n s l f.1 (f.2 l))

-- Where it is all, it is the only one.
pub only_component : (s : List ℕ) (n : ℕ) → FirstEnds s n → n ≡ length s → components s ≡ s ∷ []
only_component s n f e = no_slash s (λ k l. f.1 k (omega arith))
