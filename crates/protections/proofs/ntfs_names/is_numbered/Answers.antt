-- A tilde, a digit 1 to 9 and digits.
use Rattle.std.proofs.Common.{◌-◌, length, take, drop, rules}
use Rattle.std.specs.Char.{is_ascii_digit}
use Rattle.std.proofs.lemmas.Iterator.{YieldsList-from_slice}
use Rattle.std.proofs.lemmas.Iterator.Search.{all_from_yields_List}
use borrow.Author.Tests.{tests}
use Rattle.protections.proofs.Short.{numbered_yes}
use Rattle.protections.proofs.ntfs_names.is_numbered.Goals as goal

pub returns-then-digits-more : goal.returns-then-digits-more
returns-then-digits-more c =
    let s = c.args.bytes.now in
    numbered_yes c.args.more s (search rules) (search rules) (search rules) (search rules) (search rules) c.all.result
    (all_from_yields_List is_ascii_digit _ _ c.all.result c.all.ensures.ran (YieldsList-from_slice (take (length s - 2) (drop 2 s)) (cc)) (λ x b q k. search (rules, tests)))
