-- The calls that a list names, with what their references point to, and the history of those that were made.
use Rattle.std.specs.Prelude.{ℕ, List, Result, map, take}
use Rattle.register_model.specs.Calls as model
use Rattle.register_model.specs.Calls.Call.{enter, offer, remove, rename}
use Rattle.register_model.specs.Claim.{Done}
use Rattle.register_model.specs.Histories.{history}
use Rattle.register.specs.Faults.{outcome_of}
use Rattle.register.specs.declared.faults.Fault.{Fault}
use Rattle.runs.specs.declared.Call.{Call}
use Rattle.runs.specs.declared.Call.TheVariants as variants
use Rattle.runs.specs.declared.Change.{Change}
use Rattle.runs.specs.declared.Change.TheVariants.{Enter, Remove, Rename}

abbrev pub change_of : Change → model.Call
change_of (Enter x n mode) = enter x.now n mode
change_of (Rename old new mode) = rename old.now new.now mode
change_of (Remove x) = remove x.now

abbrev pub call_of : Call → model.Call
call_of (variants.Change c) = change_of c
call_of (variants.Offer text n) = offer text.now n

-- The history of the first n calls of a list and of their answers.
abbrev pub first_done :
    {Q : Type 0} → (Q → model.Call) → List Q → List (Result ℕ Fault) → ℕ → List Done
first_done call calls answers n =
    history (map call (take n calls)) (map outcome_of (take n answers))
