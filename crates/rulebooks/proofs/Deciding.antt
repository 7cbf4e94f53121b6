-- What an answer by a rulebook says, from the rulebook's meaning.
use Rattle.std.proofs.Common.{◌≡◌, ℕ, OnOk, IfErr, Ok, Err, Result, sym}
use Rattle.tag.specs.Answers.{Answer}
use Rattle.tag.specs.Answers.Answer.{allowed, refused}
use Rattle.rulebooks.specs.Refusals.{fault_ruling}
use Rattle.rulebooks.specs.declared.RulebookFault.{RulebookFault}

-- An Ok has what follows from the name's being allowed.
pub OnOk-from_meaning : {T P : Type 0} (r : Result T RulebookFault) (x : Answer ℕ) → fault_ruling r ≡ x → (x ≡ allowed → P) → OnOk r P
OnOk-from_meaning (Ok v) x e f = f (sym e)
OnOk-from_meaning (Err d) x e f = tt

-- An Err has what follows from the name's being refused so.
pub IfErr-from_meaning : {T : Type 0} {P : ℕ → ℕ → Type 0} (r : Result T RulebookFault) (x : Answer ℕ) → fault_ruling r ≡ x
    → ((n v : ℕ) → x ≡ refused n v → P n v) → IfErr r (λ f. P f.refusal.number f.refusal.value)
IfErr-from_meaning (Ok v) x e f = tt
IfErr-from_meaning (Err d) x e f = f d.refusal.number d.refusal.value (sym e)
