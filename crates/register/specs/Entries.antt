-- The entries of a table: their order, and one with another name and mode.
-- Contracts of the private table cite these, and no public one.
use Rattle.std.specs.Prelude.{ℕ, zero, suc, List, [], ◌∷◌, Option}
use Rattle.std.specs.Ordering.{nat_cmp}
use Rattle.std.specs.Cmp.Lexicographic.{slice_cmp}
use Rattle.std.specs.List.Sorted.{IsSortedByKey}
use Rattle.protections.specs.declared.rules.Mode.{Mode}
use Rattle.register_model.specs.Calls.{Kept}
use Rattle.register_model.specs.Entries.{Entry}

-- The names stand in ascending order of their bytes: the library's words for `Ascends` of register_model.
abbrev pub InOrder : {M : Type 0} → List (Entry M) → Type 0
InOrder = IsSortedByKey (λ e. e.name) (slice_cmp nat_cmp)

-- The number at a place, 0 where there is none.
unfoldable pub number_by_place : ℕ → Kept → ℕ
number_by_place p [] = 0
number_by_place zero (e ∷ es) = e.number
number_by_place (suc p) (e ∷ es) = number_by_place p es

-- The entry at a place with another name and mode.
abbrev pub renamed : Kept → ℕ → List ℕ → Option Mode → Entry (Option Mode)
renamed es p x mode = record { name = x; number = number_by_place p es; mode = mode }
