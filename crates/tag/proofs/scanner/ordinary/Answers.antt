use Rattle.std.proofs.Common.{rules}
use Rattle.tag.proofs.Chart.{charted}
use Rattle.tag.proofs.scanner.ordinary.Goals as goal

pub returns : goal.returns
returns c = search (rules, charted)
