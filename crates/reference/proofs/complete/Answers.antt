use Rattle.std.proofs.Common.{◌||◌, rules, ap, ◌∙◌}
use Rattle.std.specs.List.{list_all}
use Rattle.std.proofs.lemmas.Iterator.{YieldsList-from_slice}
use Rattle.std.proofs.lemmas.Iterator.Search.{all_from_yields_List}
use Rattle.reference.specs.Names.{is_capital}
use Rattle.reference.proofs.complete.Goals as goal

pub returns-else-contains : goal.returns-else-contains
returns-else-contains c =
    let s = c.args.input.now in
    let all = all_from_yields_List is_capital _ _ c.all.result c.all.ensures.ran (YieldsList-from_slice s cc) (λ x b q k. search rules) in
    all ∙ ap (λ b. b || list_all is_capital s) c.if-contains.ensures.value
