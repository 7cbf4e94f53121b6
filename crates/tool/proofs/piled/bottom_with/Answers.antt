use Rattle.std.proofs.Common.{rules}
use Rattle.tool.proofs.Pairs.{first_refused}
use Rattle.tool.proofs.piled.bottom_with.Goals as goal

pub returns-in_err-declare-clause-first : goal.returns-in_err-declare-clause-first
returns-in_err-declare-clause-first c = search (rules, first_refused)
