-- The two parts are those at the first `=`.
use Rattle.std.proofs.Common.{rules, arith}
use Rattle.command_line.proofs.Pairs.{first_part, is_found}
use Rattle.command_line.proofs.spellings.pair_of.Goals as goal

pub returns-clause-found : goal.returns-clause-found
returns-clause-found c = is_found 61 c.args.word.now c.split_once.result (c.split_once.ensures.byte (omega arith) (search rules))

pub returns-clause-first : goal.returns-clause-first
returns-clause-first c = first_part 61 c.args.word.now c.split_once.result (c.split_once.ensures.byte (omega arith) (search rules))
