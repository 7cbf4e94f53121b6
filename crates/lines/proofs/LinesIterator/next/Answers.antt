-- Where there is no next line, no byte is left.
use Rattle.std.proofs.Common.{rules}
use Rattle.lines.specs.Lines.{lines}
use Rattle.lines.proofs.LinesIterator.next.Goals as goal

pub returns-in_err-line-clause-steps : goal.returns-in_err-line-clause-steps
unfolding lines
returns-in_err-line-clause-steps c = search rules
