-- The ruling that a result stands for.
use Rattle.std.specs.Prelude.{ℕ, Ok, Err, Result}
use Rattle.tag.specs.Answers.{Answer}
use Rattle.tag.specs.Answers.Answer.{allowed, refused}
use Rattle.rulebooks.specs.declared.Refusal.{Refusal}
use Rattle.rulebooks.specs.declared.RulebookFault.{RulebookFault}

-- The ruling that a refusal stands for.
abbrev pub ruling_in : Refusal → Answer ℕ
ruling_in e = refused e.number e.value

-- The ruling that a result stands for.
abbrev pub ruling_of : {T : Type 0} → Result T Refusal → Answer ℕ
ruling_of (Ok v) = allowed
ruling_of (Err e) = ruling_in e

-- The same of a result whose refusal tells the kind.
abbrev pub fault_ruling : {T : Type 0} → Result T RulebookFault → Answer ℕ
fault_ruling (Ok v) = allowed
fault_ruling (Err f) = ruling_in f.refusal
