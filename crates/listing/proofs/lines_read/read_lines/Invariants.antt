-- The calls so far and those among the lines that are left are all, and so with whether each line is a call.
use Rattle.std.proofs.Common.{◌≡◌, ◌++◌, map, vec_items}
use Rattle.lines.specs.Left.{lines_left}
use Rattle.lines.specs.Lines.{lines}
use Rattle.runs.specs.Listed.{call_of}
use Rattle.listing.specs.Report.{are_calls, calls_in}
use Rattle.listing.proofs.lines_read.read_lines.Given as goal

abbrev pub invariant-loop-line : goal.invariant-loop-line
invariant-loop-line l = record {
  are_calls : vec_items l.reading.are_calls ++ are_calls (lines_left l.line-iterator) ≡ are_calls (lines l.input);
  calls : map call_of (vec_items l.reading.calls) ++ calls_in (lines_left l.line-iterator) ≡ calls_in (lines l.input);
}
