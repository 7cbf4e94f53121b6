-- Each call of the lines is made, and the report is that of their answers.
use Rattle.std.specs.Prelude.{Ok, Err, OnErr, Result}
use Rattle.std.proofs.Common.{inr, ◌≡◌, map, length, vec_len, ap, ◌∙◌, refl, arith}
use Rattle.std.proofs.lemmas.List.{take_at}
use Rattle.std.proofs.lemmas.Result.{IfOk-weaker}
use Rattle.lines.specs.Lines.{lines}
use Rattle.register.specs.Faults.{outcome_of}
use Rattle.register.specs.Registers.{entries_in, meaning_in, state_in}
use Rattle.runs.specs.Listed.{call_of}
use Rattle.register_model.specs.Histories.{answers}
use Rattle.listing.specs.Report.{are_calls, calls_in, report_for}
use Rattle.listing.proofs.Performed.{all_answered, all_claimed, all_exact, all_left, all_offered}
use Rattle.listing.proofs.list.Goals as goal

-- What holds holds where the result is an error.
on_err : {T E P : Type 0} (r : Result T E) → P → OnErr r P
on_err (Ok v) p = tt
on_err (Err e) p = p

pub returns : goal.returns
returns g c =
    let m = meaning_in g.R.MendingRulebook.mended c.args.register.now in
    let s = state_in c.args.register.now in
    let p = c.perform.ensures in
    let A = c.perform.new.answers in
    let cs = c.as_slice.result.now in
    let read = ap (map call_of) c.as_slice.ensures.value ∙ c.in_ok-are_calls.ensures.calls in
    let room : length c.as_mut_slice.result.now ≡ length c.as_slice.result.now =
    omega (arith, c.as_mut_slice.ensures.len, c.in_ok-results.ensures.len, c.len.ensures, c.as_slice.ensures.len) in
    let size : length c.perform.new.answers ≡ vec_len c.in_ok-results.results = omega (arith, c.perform.auto.answers, c.as_mut_slice.ensures.len) in
    let whole : c.as_slice-3.result.now ≡ A = c.as_slice-3.ensures.value ∙ take_at A _ _ size in
    let kinds = c.as_slice-2.ensures.value ∙ c.in_ok-are_calls.ensures.are_calls in
    let answered = ap (map outcome_of) whole ∙ all_answered call_of outcome_of m s cs A _ _ _ _ p.count room c.perform.auto.answers p.answered p.state read in
    let left = all_left call_of outcome_of m s cs A _ _ _ _ p.count room c.perform.auto.answers p.answered p.state read in
    record {
      report = IfOk-weaker c.write_report.result _ _
          (λ v e. e ∙ (ap (λ bs. report_for bs (map outcome_of c.as_slice-3.result.now) (entries_in c.perform.new.register)) kinds
          ∙ (ap (λ os. report_for (are_calls (lines c.args.input.now)) os (entries_in c.perform.new.register)) answered
          ∙ ap (λ z. report_for (are_calls (lines c.args.input.now)) (answers m s (calls_in (lines c.args.input.now))) z.kept) left)))
          c.write_report.ensures;
      claim = IfOk-weaker c.write_report.result _ _
          (λ v e h. all_claimed call_of outcome_of m s cs A _ _ _ _ p.count room c.perform.auto.answers p.answered p.state read (p.claim h))
          c.write_report.ensures;
      offers = IfOk-weaker c.write_report.result _ _
          (λ v e. all_offered call_of outcome_of m s cs A _ _ _ _ p.count room c.perform.auto.answers p.answered p.state read (p.offers refl))
          c.write_report.ensures;
      offers_exact = IfOk-weaker c.write_report.result _ _
          (λ v e h. all_exact call_of outcome_of m s cs A _ _ _ _ p.count room c.perform.auto.answers p.answered p.state read (p.offers_exact refl h))
          c.write_report.ensures;
      left = IfOk-weaker c.write_report.result _ _ (λ v e. left) c.write_report.ensures;
      failed = on_err c.write_report.result (inr left);
      same_rules = p.same_rules;
    }
