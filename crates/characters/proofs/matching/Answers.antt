-- The count of the pairs from the front on of which the byte lies in its range.
use Rattle.std.proofs.Common.{◌≡◌, ◌∙◌, rules, tests}
use Rattle.std.specs.List.{zip}
use Rattle.std.proofs.lemmas.Iterator.{YieldsList-from_slice, YieldsList-from_zip}
use Rattle.std.proofs.lemmas.Iterator.Consumers.{YieldsList-at, count_from_yields_List}
use Rattle.std.proofs.lemmas.Iterator.Search.{YieldsList-from_take_while}
use Rattle.std.proofs.lemmas.List.Folds.{length-prefix_len}
use Rattle.characters.proofs.Rows.{meets, common_prefix_zip}
use Rattle.characters.proofs.matching.Goals as goal

pub returns-clause-value : goal.returns-clause-value
returns-clause-value c =
    let second : c.zip.result.b.rest.now ≡ c.args.ranges.now = c.zip.ensures.second.0 in
    count_from_yields_List c.take_while.result _ c.count.ensures.ran
    (YieldsList-from_take_while _ meets
    (YieldsList-at c.take_while.ensures.source (YieldsList-from_zip (YieldsList-at c.zip.ensures.first (YieldsList-from_slice c.args.bytes.now cc)) (YieldsList-from_slice c.args.ranges.now second)))
    c.take_while.ensures.closure c.take_while.ensures.done (λ x b q k. search (rules, tests)))
    ∙ length-prefix_len meets (zip c.args.bytes.now c.args.ranges.now)
    ∙ common_prefix_zip c.args.bytes.now c.args.ranges.now
