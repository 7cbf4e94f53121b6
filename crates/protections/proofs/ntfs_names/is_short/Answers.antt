-- One of the numbers of bytes kept will do.
use Rattle.std.proofs.Common.{refl, rules}
use Rattle.std.proofs.lemmas.Iterator.{YieldsList-from_range}
use Rattle.std.proofs.lemmas.Iterator.Search.{any_from_yields_List}
use borrow.Author.Tests.{tests}
use Rattle.protections.specs.Keys.{lowered}
use Rattle.protections.specs.Names.{short_at, short_name}
use Rattle.protections.proofs.ntfs_names.is_short.Goals as goal

pub returns : goal.returns
unfolding short_name
returns c =
    any_from_yields_List (short_at (lowered c.args.name.now)) _ _ c.any.result c.any.ensures.ran (YieldsList-from_range 0 7 7 (cc) refl) (λ x b q k. search (rules, tests))
