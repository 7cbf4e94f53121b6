use Rattle.std.proofs.Common.{◌≡◌, ◌+◌, ◌++◌, ◌∷◌, map, drop, false, get_or}
use Rattle.std.specs.Option.{option_map}
use Rattle.std.specs.Slice.Iter.{iter_rest}
use Rattle.std.proofs.lemmas.List.{at_drop_more, drop_all}
use Rattle.register.specs.Faults.{outcome_of}
use Rattle.listing.specs.Report.{answer_lines, line_for}
use Rattle.listing.specs.Parts.{outcome_at}
use Rattle.listing.proofs.Reporting.{call_line, line_end, line_more, other_line}
use Rattle.listing.proofs.reports.Draft.add_answers.Goals as goal
use Rattle.listing.proofs.reports.Draft.add_answers.Goals.{then-is_call, else-is_call}

-- The answer is the one that belongs to the line, and the others are left.
taken : (c : goal.In_ok-add_answer)
    → line_for (option_map outcome_at c.if-is_call.answer) ++ answer_lines (drop (c.loop-is_call.is_call-index + 1) c.args.are_calls.now) (map outcome_of (iter_rest c.if-is_call.left))
    ≡ answer_lines (get_or c.args.are_calls.now c.loop-is_call.is_call-index false ∷ drop (c.loop-is_call.is_call-index + 1) c.args.are_calls.now) (map outcome_of (iter_rest c.loop-is_call.left))
taken c = elim c.if-is_call.branch [
  | then-is_call w ↦
      rw (w.answer-is, w.left-is, w.if-is_call.true)
      (call_line (drop (c.loop-is_call.is_call-index + 1) c.args.are_calls.now) c.loop-is_call.left w.next-answer.new.self w.next-answer.result w.next-answer.ensures.steps)
  | else-is_call w ↦ rw (w.answer-is, w.left-is, w.if-is_call.false) (other_line _ _)
]

pub loop-is_call-preserved : goal.loop-is_call-preserved
loop-is_call-preserved c =
    line_more c.loop-is_call.self.bytes.items _ (map outcome_of (iter_rest c.loop-is_call.left)) _ c.loop-is_call.invariant
    c.add_answer.new.self.bytes.items _ _ _ _ (at_drop_more (λ z. z) c.args.are_calls.now c.loop-is_call.is_call-index false c.loop-is_call-test.true)
    c.in_ok-add_answer.ensures (taken c)

pub returns : goal.returns
returns c =
    line_end c.loop-is_call.self.bytes.items _ (map outcome_of (iter_rest c.loop-is_call.left)) _ c.loop-is_call.invariant
    (drop_all c.loop-is_call.is_call-index c.args.are_calls.now c.loop-is_call-test.false)
