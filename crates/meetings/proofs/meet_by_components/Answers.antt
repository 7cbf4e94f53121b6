-- The first pair of components that differ decides.
use Rattle.std.proofs.Common.{◌≡◌, true, ap, ◌∙◌, rules}
use Rattle.std.proofs.lemmas.Iterator.{YieldsList-from_zip}
use Rattle.std.proofs.lemmas.Iterator.Consumers.{YieldsList-from_first}
use Rattle.std.proofs.lemmas.Iterator.Search.{find_from_yields_List}
use borrow.Author.Tests.{tests}
use Rattle.tag.specs.Components.{components}
use Rattle.tag.specs.ComponentsLeft.{components_left}
use Rattle.protections.proofs.Equal.{tested, test_mapped}
use Rattle.meetings.specs.Meeting.{meet}
use Rattle.meetings.proofs.Pairwise.{by_first, differ, first_decides}
use Rattle.meetings.proofs.meet_by_components.Goals as goal

pub returns : goal.returns
unfolding meet
returns g c =
    let together = g.F.FileSystem.together c.args.files.now in
    let left = components c.args.first.now in
    let right = components c.args.second.now in
    let first =
    find_from_yields_List differ _ _ c.find.result c.find.ensures.ran
    (YieldsList-from_zip (YieldsList-from_first (λ x. x.now) components_left left cc) (YieldsList-from_first (λ x. x.now) components_left right cc))
    (λ x b q k. search (rules, tests))
    in
    tested (λ x. together x.0.now x.1.now) true c.find.result c.is_none_or.result _ c.is_none_or.ensures (λ x p. search rules)
    ∙ test_mapped (λ x. (x.0.now, x.1.now)) (λ p. together p.0 p.1) c.find.result true
    ∙ ap (by_first together) first
    ∙ first_decides together left right
