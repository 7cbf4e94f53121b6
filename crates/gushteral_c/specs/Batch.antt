-- Names of equal length, one after another, as a list of enters, and the answers to them as bytes.
use Rattle.std.specs.Prelude.{ℕ, zero, suc, ◌*◌, ◌/◌, min, if◌then◌else◌, List, [], ◌∷◌, ◌++◌, map, length, take, drop, None, ◌==◌}
use Rattle.register_model.specs.Calls.{Call, Outcome, State, no_entries, number_of}
use Rattle.register_model.specs.Calls.Call.{enter}
use Rattle.register_model.specs.Calls.Outcome.{accepted, declined}
use Rattle.register_model.specs.Histories.{answers, state_left}
use Rattle.runs.specs.Campus.{campus}

-- How many names of k bytes the bytes s hold: a rest shorter than k is left out, and 0 bytes are
-- no name.
abbrev pub names_in : ℕ → List ℕ → ℕ
names_in k s = if k == 0 then 0 else length s / k

-- The name at the index i.
abbrev pub name_at : ℕ → List ℕ → ℕ → List ℕ
name_at k s i = take k (drop (i * k) s)

-- Its number: the index, and the largest number of 32 bits from there on.
abbrev pub number_of_index : ℕ → ℕ
number_of_index i = min i 4294967295

-- The first n names, each entered with its number and no mode.
unfoldable pub enters : ℕ → List ℕ → ℕ → List Call
enters k s zero = []
enters k s (suc n) = enters k s n ++ enter (name_at k s n) (number_of_index n) None ∷ []

-- The names that are entered where the answers go to these bytes.
abbrev pub batch : ℕ → List ℕ → List ℕ → List Call
batch k s room = enters k s (min (names_in k s) (length room))

-- An answer as a byte: 0 for accepted, and else the number of the refusal.
abbrev pub byte_of : Outcome → ℕ
byte_of (accepted p) = 0
byte_of (declined f) = number_of f

-- The answers to these calls from the state s on, and then what the bytes were before.
abbrev pub bytes_after : State → List Call → List ℕ → List ℕ
bytes_after s calls before = map byte_of (answers campus s calls) ++ drop (length calls) before

-- How many entries these calls leave.
abbrev pub count_left : List Call → ℕ
count_left calls = length (state_left campus no_entries calls).kept
