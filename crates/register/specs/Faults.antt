-- The fault and the outcome that a result of a call stands for.
use Rattle.std.specs.Prelude.{ℕ, Some, None, Ok, Err, Option, Result}
use Rattle.protections.specs.Rules.{verdict_number}
use Rattle.register_model.specs.Calls as model
use Rattle.register_model.specs.Calls.{Outcome}
use Rattle.register_model.specs.Calls.Fault.{by_component, by_rulebook, by_state}
use Rattle.register_model.specs.Calls.Outcome.{accepted, declined}
use Rattle.register.specs.declared.faults.Fault.{Fault}
use Rattle.register.specs.declared.faults.Fault.TheVariants.{Component, Rulebook, State}
use Rattle.register.specs.declared.faults.StateFault.{StateFault}
use Rattle.register.specs.declared.faults.StateFault.TheVariants.{Full, Met, NotKept, TooLong}

-- Each case of the register's own refusals, with its number and place.
abbrev pub own_fault : StateFault → model.Fault
own_fault TooLong = by_state 32 0
own_fault (Met p) = by_state 41 p
own_fault Full = by_state 42 0
own_fault NotKept = by_state 43 0

-- Each case of a fault, with its numbers and values.
abbrev pub fault_in : Fault → model.Fault
fault_in (Rulebook f) = by_rulebook f.kind f.refusal.number f.refusal.value
fault_in (Component v i) = by_component (verdict_number v) i
fault_in (State f) = own_fault f

-- The fault that a check's result stands for, if any; private functions alone cite it.
abbrev pub fault_of : {T : Type 0} → Result T Fault → Option model.Fault
fault_of (Ok v) = None
fault_of (Err f) = Some (fault_in f)

-- The outcome that a call's result stands for.
abbrev pub outcome_of : Result ℕ Fault → Outcome
outcome_of (Ok p) = accepted p
outcome_of (Err f) = declined (fault_in f)
