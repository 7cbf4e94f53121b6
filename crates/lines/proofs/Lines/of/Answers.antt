-- The lines are those of the law.
use Rattle.lines.proofs.Law.{are_lines}
use Rattle.lines.proofs.Lines.of.Goals as goal

pub returns-clause-lines : goal.returns-clause-lines
returns-clause-lines c = are_lines c.args.text.now
