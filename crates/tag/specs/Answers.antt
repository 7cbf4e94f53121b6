-- What a check answers.
use Rattle.std.specs.Prelude.{ℕ, ◌<◌, List}

-- What the refusal of a name carries besides its number: nothing, the invalid byte, or the refused name.
pub data Value : Type 0 where
  nothing : Value
  byte : ℕ → Value
  name : List ℕ → Value

-- A check allows, or it refuses by a number and what the refusal carries.
pub data Answer (V : Type 0) : Type 0 where
  allowed : Answer V
  refused : ℕ → V → Answer V

-- The number of an answer, 0 where the check allows.
abbrev pub number_of : {V : Type 0} → Answer V → ℕ
number_of allowed = 0
number_of (refused n v) = n

-- Of two checks in this order, the first that refuses decides.
abbrev pub first_refusal : {V : Type 0} → Answer V → Answer V → Answer V
first_refusal allowed next = next
first_refusal (refused n v) next = refused n v

-- The answer is that of the first rule that applies. A rule applies at a place, with a number and what its refusal carries.
-- The check allows where no rule applies at any place. It refuses by a rule that applies where none does at an earlier place.
abbrev pub IsFirst : {V : Type 0} → (ℕ → ℕ → V → Type 0) → Answer V → Type 0
IsFirst {V} applies allowed = (place n : ℕ) (v : V) → ¬ applies place n v
IsFirst {V} applies (refused n v) =
    (place : ℕ) × applies place n v
    × ((earlier m : ℕ) (w : V) → earlier < place → ¬ applies earlier m w)
