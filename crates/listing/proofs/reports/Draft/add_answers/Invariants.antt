-- The lines before those that are left are added, and the answers of their calls are taken.
use Rattle.std.proofs.Common.{◌≡◌, ◌++◌, map, drop, vec_items}
use Rattle.std.specs.Slice.Iter.{iter_rest}
use Rattle.register.specs.Faults.{outcome_of}
use Rattle.listing.specs.Report.{answer_lines}
use Rattle.listing.proofs.reports.Draft.add_answers.Given as goal

abbrev pub invariant-loop-is_call : goal.invariant-loop-is_call
invariant-loop-is_call l =
    vec_items l.self.bytes ++ answer_lines (drop l.is_call-index l.are_calls) (map outcome_of (iter_rest l.left))
    ≡ vec_items l.initial.self.bytes ++ answer_lines l.are_calls (map outcome_of l.answers)
