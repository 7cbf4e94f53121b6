use Rattle.std.proofs.Common.{sym, arith}
use Rattle.std.proofs.lemmas.Grind.{common_steps}
use Rattle.tag.proofs.Splitting.{components-split, components-unsplit, nearer_end}
use Rattle.tag.specs.ComponentsLeft.{components_left}
use Rattle.tag.proofs.components.ComponentsIterator.next.Goals as goal

pub returns-in-Some-clause-steps : goal.returns-in-Some-clause-steps
returns-in-Some-clause-steps c =
    let h = components-split c.in_ok-rest.rest.now (c.in-Some.component.now, c.in-Some.others.now) (sym c.in-Some.ensures) in
    grind (arith, common_steps, h)

pub returns-in-None-clause-steps : goal.returns-in-None-clause-steps
returns-in-None-clause-steps c = let h = components-unsplit c.in_ok-rest.rest.now (sym c.in-None.ensures) in grind (arith, common_steps, h)

pub returns-in-Some-clause-goes : goal.returns-in-Some-clause-goes
returns-in-Some-clause-goes c = nearer_end (λ x. x.now) components_left _ _ _ (returns-in-Some-clause-steps c)

pub returns-in-None-clause-goes : goal.returns-in-None-clause-goes
returns-in-None-clause-goes c = nearer_end (λ x. x.now) components_left _ _ _ (returns-in-None-clause-steps c)
