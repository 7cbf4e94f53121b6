-- A byte string split at the first of some byte.
use Rattle.std.specs.Prelude.{ℕ, ◌+◌, List, take, drop, Option, ◌==◌, position, option_map}
use Rattle.std.specs.Borrow.{Bor}

-- What stands before the first byte b, and what stands after it.
abbrev pub split_once : ℕ → List ℕ → Option (List ℕ × List ℕ)
split_once b s = option_map (λ i. (take i s, drop (i + 1) s)) (position (λ x. x == b) s)

-- Two parts of a byte string, by what they point to.
abbrev pub two_parts : Bor (List ℕ) × Bor (List ℕ) → List ℕ × List ℕ
two_parts p = (p.0.now, p.1.now)
