-- The report so far with the lines of the texts that are left is the whole, and so are the counts.
use Rattle.std.proofs.Common.{◌≡◌, ◌+◌, ◌++◌, length}
use Rattle.std.specs.List.{flat_map}
use Rattle.handling.specs.Report.{kept as kept_among, line_of}
use Rattle.lines.specs.Left.{lines_left}
use Rattle.lines.specs.Lines.{lines as lines_of}
use Rattle.handling.proofs.report.Given as goal

abbrev pub invariant-loop-line : goal.invariant-loop-line
invariant-loop-line l = record {
  bytes : l.report.bytes.items ++ flat_map line_of (lines_left l.line-iterator) ≡ flat_map line_of (lines_of l.input);
  lines : l.report.lines + length (lines_left l.line-iterator) ≡ length (lines_of l.input);
  kept : l.report.kept + kept_among (lines_left l.line-iterator) ≡ kept_among (lines_of l.input);
}
