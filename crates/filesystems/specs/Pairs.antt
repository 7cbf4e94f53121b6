-- Pairs of components that a storage confuses.
use Rattle.std.specs.Prelude.{◌≡◌, ℕ, ◌≤◌, Bool, ◌&&◌, ◌||◌, ◌⊎◌, List, length, Contains, bytes_eq}
use Rattle.std.specs.List.{AllByRecursion, list_any}
use Rattle.filesystems.specs.declared.storage.TheConstants.{LONGEST, MOST}

-- the declared pairs, in the order in which they were declared
abbrev pub Pairs : Type 0
Pairs = List (List ℕ × List ℕ)

-- two components lie together: they are equal, or they are a declared pair, in either order
abbrev pub Confused : Pairs → List ℕ → List ℕ → Type 0
Confused pairs a b = (a ≡ b) ⊎ (Contains pairs (a, b) ⊎ Contains pairs (b, a))

-- the two components are a declared pair, in this order
abbrev pub is_declared : Pairs → List ℕ → List ℕ → Bool
is_declared pairs a b = list_any (λ p. bytes_eq a p.0 && bytes_eq b p.1) pairs

-- Confused as a test
unfoldable pub confused : Pairs → List ℕ → List ℕ → Bool
confused pairs a b = bytes_eq a b || (is_declared pairs a b || is_declared pairs b a)

-- at most MOST pairs, with repeats, of components of at most LONGEST bytes
abbrev pub WithinLimits : Pairs → Type 0
WithinLimits pairs =
    (length pairs ≤ MOST)
    × AllByRecursion (λ p. (length p.0 ≤ LONGEST) × (length p.1 ≤ LONGEST)) pairs
