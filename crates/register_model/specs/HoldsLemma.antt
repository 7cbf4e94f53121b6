-- A lemma for the invariant of a register's type: that what holds of every register has one proof at most.
use Rattle.std.specs.Prelude.{◌≡◌, ℕ, ◌⊎◌, Option, refl}
use Rattle.std.specs.Coded.{Coded-set, code_by, coded×, coded⊎, coded_ℕ, coded_option, le_prop}
use mathlib.Core.Bool.{Bool-set}
use mathlib.Core.Logic.{inl, inr}
use base.Stored.{coded_unit}
use Rattle.tag.specs.Answers.{Answer}
use Rattle.tag.specs.Answers.Answer.{allowed, refused}
use Rattle.register_model.specs.Calls.{Meaning, State}
use Rattle.register_model.specs.Claim.{Holds}

abbrev as_sum : Answer ℕ → Unit {0} ⊎ (ℕ × ℕ)
as_sum allowed = inl tt
as_sum (refused n v) = inr (n, v)

abbrev from_sum : Unit {0} ⊎ (ℕ × ℕ) → Answer ℕ
from_sum (inl u) = allowed
from_sum (inr p) = refused p.0 p.1

from_as : (r : Answer ℕ) → from_sum (as_sum r) ≡ r
from_as allowed = refl
from_as (refused n v) = refl

Answer-set : IsSet (Answer ℕ)
Answer-set = Coded-set (code_by (Unit {0} ⊎ (ℕ × ℕ)) (coded⊎ coded_unit (coded× coded_ℕ coded_ℕ)) as_sum from_sum from_as)

verdict_set : IsSet (Option ℕ)
verdict_set = Coded-set (coded_option coded_ℕ)

pub Holds-prop : (m : Meaning) (s : State) → IsProp (Holds m s)
Holds-prop m s = hlevel (le_prop, Answer-set, Bool-set, verdict_set)
