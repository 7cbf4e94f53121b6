-- What is wrong with a name by itself, check by check.
use Rattle.std.proofs.Common.{◌≡◌, ℕ, ◌<◌, ◌≤◌, List, length, Some, None, Option, sym, ap, ◌∙◌, ⊎_elim}
use Rattle.std.proofs.lemmas.Bool.{cases_lt, cond-false, cond-true, le-leb, lt-leb}
use Rattle.tag.specs.Components.{components}
use Rattle.protections.specs.declared.rules.Mode.{Mode}
use Rattle.tag.specs.Answers.Answer.{allowed, refused}
use Rattle.register_model.specs.Calls.{Meaning, first_verdict, name_fault, ruling_fault}
use Rattle.register_model.specs.Calls.Fault.{by_rulebook, by_state}
use Rattle.register_model.specs.declared.TheConstants.{LONGEST_NAME}

module _ (m : Meaning) (x : List ℕ) (mode : Option Mode) where
  -- It is too long.
  pub too_long : LONGEST_NAME < length x → Some (by_state 32 0) ≡ name_fault m x mode
  unfolding name_fault
  too_long l = sym (cond-false _ _ _ (lt-leb (length x) LONGEST_NAME l))

  module _ (l : length x ≤ LONGEST_NAME) where
    ruled : ruling_fault m.kind (m.ruling x) (first_verdict m.verdict mode 0 (components x)) ≡ name_fault m x mode
    unfolding name_fault
    ruled = sym (cond-true _ _ _ (le-leb (length x) LONGEST_NAME l))

    -- The rulebook refuses it.
    pub rules_refuse : (k n v : ℕ) → k ≡ m.kind → refused n v ≡ m.ruling x → Some (by_rulebook k n v) ≡ name_fault m x mode
    rules_refuse k n v e r = ap (λ z. Some (by_rulebook z n v)) e ∙ (ap (λ z. ruling_fault m.kind z (first_verdict m.verdict mode 0 (components x))) r ∙ ruled)

    -- The rulebook allows it, and the verdicts decide.
    pub verdicts_decide : allowed ≡ m.ruling x → first_verdict m.verdict mode 0 (components x) ≡ name_fault m x mode
    verdicts_decide r = ap (λ z. ruling_fault m.kind z (first_verdict m.verdict mode 0 (components x))) r ∙ ruled

-- A name with no fault has at most LONGEST_NAME bytes.
pub fine_short : (m : Meaning) (x : List ℕ) (mode : Option Mode) → None ≡ name_fault m x mode → length x ≤ LONGEST_NAME
fine_short m x mode e =
    ⊎_elim
    (λ l. let q : None ≡ Some (by_state 32 0) = e ∙ sym (too_long m x mode l) in cc)
    (λ h. h)
    (cases_lt LONGEST_NAME (length x))
