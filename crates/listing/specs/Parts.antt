-- Answers that hold parts of a line as byte strings, and one that is pointed to as an outcome.
-- Contracts of private functions cite these, and no public one.
use Rattle.std.specs.Prelude.{ℕ, List, Result}
use Rattle.std.specs.Borrow.{Bor}
use Rattle.register_model.specs.Calls.{Outcome}
use Rattle.register.specs.Faults.{outcome_of}
use Rattle.register.specs.declared.faults.Fault.{Fault}

abbrev pub number_and_rest : ℕ × Bor (List ℕ) → ℕ × List ℕ
number_and_rest p = (p.0, p.1.now)

abbrev pub outcome_at : Bor (Result ℕ Fault) → Outcome
outcome_at answer = outcome_of answer.now
