-- Each turn asks for the verdict on one component.
use Rattle.std.proofs.Common.{◌≡◌, ℕ, ◌≤◌, ◌-◌, List, [], ◌∷◌, length, refl, ap, sym, ◌∙◌, inl, inr, arith}
use Rattle.std.proofs.lemmas.Result.{err_from_is_err_and}
use Rattle.tag.specs.Components.{components}
use Rattle.register_model.specs.Calls.{first_verdict}
use Rattle.meetings.proofs.Meetings.{some_component}
use Rattle.register.proofs.Components.{Own, length-components, others_decide, parts_counted, verdict_decides}
use Rattle.register.proofs.checks.check_components.Goals as goal
use Rattle.register.proofs.checks.check_components.Goals.{then-index-last, else-index-last}

some_counted : {X : Type 0} (xs : List X) (n : ℕ) → n ≡ length xs → (xs ≡ [] → ⊥) → 1 ≤ n
some_counted [] n e h = absurd (h refl)
some_counted (x ∷ xs) n e h = omega arith

pub count-last-requires-clause-fits : goal.count-last-requires-clause-fits
count-last-requires-clause-fits g c = inl (omega (arith, ap length c.of.ensures.answer, length-components c.deref.result.now))

pub overflow_sub-last : goal.overflow_sub-last
overflow_sub-last g c =
    let counted = parts_counted c.args.name.now.items _ c.of.ensures.answer c.deref.ensures.0 c.count-last.ensures.ran in
    some_counted (components c.args.name.now.items) c.count-last.result counted (some_component c.args.name.now.items)

pub loop-index-preserved : goal.loop-index-preserved
loop-index-preserved g c =
    let counted = parts_counted c.args.name.now.items _ c.of.ensures.answer c.deref.ensures.0 c.count-last.ensures.ran in
    let own : Own c.args.mode (c.count-last.result - 1) c.in-Some.index c.if-index-last.own =
    elim c.if-index-last.branch [ then-index-last w ↦ inl (w.if-index-last.true, w.own-is) | else-index-last w ↦ inr (w.if-index-last.false, w.own-is) ] in
    let step = c.in-Some.ensures.steps in
    let more = others_decide (g.F.FileSystem.verdict_of c.args.files.now) c.args.mode (c.count-last.result - 1) _ _ c.in-Some.index _ _ (length (components c.args.name.now.items)) c.in-Some.component.now c.if-index-last.own
    step.0 step.1 step.2 c.loop-index.invariant.index (ap (λ n. n - 1) counted) own c.in_ok-check_component.ensures in
    record { verdict = more ∙ c.loop-index.invariant.verdict; index = omega (arith, ap length step.0, step.2, c.loop-index.invariant.index) }

pub returns-in_err-check_component : goal.returns-in_err-check_component
returns-in_err-check_component g c =
    let counted = parts_counted c.args.name.now.items _ c.of.ensures.answer c.deref.ensures.0 c.count-last.ensures.ran in
    let own : Own c.args.mode (c.count-last.result - 1) c.in-Some.index c.if-index-last.own =
    elim c.if-index-last.branch [ then-index-last w ↦ inl (w.if-index-last.true, w.own-is) | else-index-last w ↦ inr (w.if-index-last.false, w.own-is) ] in
    let step = c.in-Some.ensures.steps in
    let p = err_from_is_err_and c.from_residual.result c.from_residual.ensures.1 in
    rw (p.1, p.2)
    (verdict_decides (g.F.FileSystem.verdict_of c.args.files.now) c.args.mode (c.count-last.result - 1) _ _ c.in-Some.index _ _ (length (components c.args.name.now.items)) c.in-Some.component.now c.if-index-last.own
    step.0 step.1 step.2 c.loop-index.invariant.index (ap (λ n. n - 1) counted) own _ c.in_err-check_component.ensures
    ∙ c.loop-index.invariant.verdict)

pub returns : goal.returns
unfolding first_verdict
returns g c = ap (first_verdict (g.F.FileSystem.verdict_of c.args.files.now) c.args.mode _) (sym c.in-None.ensures.steps.0.0) ∙ c.loop-index.invariant.verdict
