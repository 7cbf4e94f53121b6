-- Each turn rules on one component.
use Rattle.std.proofs.Common.{◌≡◌, length, inl, ap, ◌∙◌, arith}
use Rattle.std.proofs.lemmas.Result.{err_from_is_err_and}
use Rattle.std.specs.Iterator.Adapters.{enumerate_count, enumerate_source}
use Rattle.tag.specs.ComponentsLeft.{components_left}
use Rattle.rulebooks.proofs.Paths.{leftmost_ends, leftmost_more, leftmost_refuses, length-components}
use Rattle.rulebooks.proofs.trees.check_components.Goals as goal

-- The indices fit: a name has at most one component more than bytes.
pub loop-index-init-derived : goal.loop-index-init-derived
loop-index-init-derived c =
    let turns = c.into_iter-index-iterator.result in
    let first : enumerate_count turns ≡ 0 = cc in
    let same : enumerate_source turns ≡ c.of.result = cc in
    let all = ap components_left same ∙ c.of.ensures.answer in
    let short = c.well_formed.0.1 in
    ((tt, tt, inl (omega (arith, ap length all, length-components c.args.path.now))), tt)

pub loop-index-init : goal.loop-index-init
loop-index-init c =
    let turns = c.into_iter-index-iterator.result in
    let first : enumerate_count turns ≡ 0 = cc in
    let same : enumerate_source turns ≡ c.of.result = cc in
    let all = ap components_left same ∙ c.of.ensures.answer in
    cc

pub loop-index-preserved : goal.loop-index-preserved
loop-index-preserved c =
    let turn = c.in-Some.ensures.steps in
    let others = leftmost_more c.in-Some.index _ _ _ turn.0 c.in_ok-check_component.ensures in
    let before = c.loop-index.invariant in
    cc

pub returns-in_err-check_component : goal.returns-in_err-check_component
returns-in_err-check_component c =
    let turn = c.in-Some.ensures.steps in
    let refusal = leftmost_refuses c.in-Some.index _ _ _ turn.0 _ _ c.in_err-check_component.ensures in
    let before = c.loop-index.invariant in
    let exit = err_from_is_err_and c.from_residual.result c.from_residual.ensures.1 in
    rw (exit.1, exit.2) (cc)

pub returns : goal.returns
returns c = leftmost_ends _ _ c.in-None.ensures.steps.0.0 ∙ c.loop-index.invariant
