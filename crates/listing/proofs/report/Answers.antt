use Rattle.std.proofs.Common.{length, sym, ap, ◌∙◌, subst, arith}
use Rattle.std.proofs.lemmas.Result.{IfOk-weaker}
use Rattle.std.proofs.lemmas.Bool.{cond-false, cond-true, le-leb, lt-leb}
use Rattle.std.specs.Prelude.{Ok, Err, OnOk, Result}
use Rattle.lines.specs.Lines.{lines}
use Rattle.register_model.specs.Calls.{no_entries}
use Rattle.register_model.specs.Claim.{Claim, OffersClaim, OffersExact}
use Rattle.register_model.specs.Histories.{answers, history, state_left}
use Rattle.register.specs.Registers.{state_in}
use Rattle.runs.specs.Campus.{campus}
use Rattle.listing.specs.declared.TheConstants.{LONGEST_INPUT}
use Rattle.listing.specs.Report.{are_calls, calls_in, report_for, report_of}
use Rattle.listing.proofs.report.Goals as goal

-- Two facts on the value of a result make a third.
both_ok : {T E P Q S : Type 0} (r : Result T E) → (P → Q → S) → OnOk r P → OnOk r Q → OnOk r S
both_ok (Ok v) f p q = f p q
both_ok (Err e) f p q = tt

pub returns-then-input-gt-LONGEST_INPUT : goal.returns-then-input-gt-LONGEST_INPUT
unfolding report_of
returns-then-input-gt-LONGEST_INPUT c =
    let long = c.if-input-gt-LONGEST_INPUT.true in
    record {
      report = IfOk-weaker c.too_long.result _ _ (λ v e. e ∙ sym (cond-false _ _ _ (lt-leb (length c.args.input.now) LONGEST_INPUT long))) c.too_long.ensures;
      claim = IfOk-weaker c.too_long.result _ _ (λ v e l. let z : ⊥ = omega arith in absurd z) c.too_long.ensures;
      offers = IfOk-weaker c.too_long.result _ _ (λ v e l. let z : ⊥ = omega arith in absurd z) c.too_long.ensures;
    }

pub returns : goal.returns
unfolding report_of
returns c =
    let bs = are_calls (lines c.args.input.now) in
    let cs = calls_in (lines c.args.input.now) in
    let none = c.new-register.ensures.empty in
    let short = le-leb (length c.args.input.now) LONGEST_INPUT c.if-input-gt-LONGEST_INPUT.false in
    record {
      report = IfOk-weaker c.list.result _ _
          (λ v e. e ∙ (ap (λ z. report_for bs (answers campus z cs) (state_left campus z cs).kept) none ∙ sym (cond-true _ _ _ short)))
          c.list.ensures.report;
      claim = both_ok c.list.result
          (λ f left l.
          subst (Claim campus (history cs (answers campus no_entries cs))) (left ∙ ap (λ z. state_left campus z cs) none)
          (subst (λ z. Claim campus (history cs (answers campus z cs)) (state_in c.list.new.register)) none (f none)))
          c.list.ensures.claim c.list.ensures.left;
      offers = both_ok c.list.result
          (λ o x l. (
            subst (λ z. OffersClaim campus (history cs (answers campus z cs))) none o,
            subst (λ z. OffersExact campus (history cs (answers campus z cs))) none (x none),
          ))
          c.list.ensures.offers c.list.ensures.offers_exact;
    }
