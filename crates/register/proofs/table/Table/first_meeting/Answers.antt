-- The first row that meets the name ends the search.
use Rattle.std.proofs.Common.{true, false, not, ◌&&◌, map, inl, inr, sym, refl, ap, ◌∙◌, arith, ⊎_elim}
use Rattle.std.specs.Option.{option_map}
use Rattle.meetings.specs.Meeting.{meet}
use Rattle.register_model.specs.Calls.{first_meeting, left_aside}
use Rattle.register.specs.Rows.{entry_of}
use Rattle.register.proofs.Parting.{differ, ends, go_on, side_by_side, out_is, passes}
use Rattle.register.proofs.Rows.{row_here, row_none}
use Rattle.register.proofs.Searching.{found_here, found_nowhere, not_here}
use Rattle.register.proofs.table.Table.first_meeting.Goals as goal

pub rows-preserved-then-eq : goal.rows-preserved-then-eq
rows-preserved-then-eq g c =
    let t = g.F.FileSystem.together c.args.files.now in
    let aside = option_map (λ x. x.now) c.args.aside in
    let x = c.args.name.now in
    not_here (λ e. not (left_aside aside e.name) && meet t e.name x) _ _ c.rows.invariant _
    (row_here c.deref-row-items.result.now c.rows.place _ c.row-item.is c.rows-test.true)
    (passes t aside _ _ x true _ c.as_slice-old.ensures.value (out_is c.args.aside c.as_slice-old.result true c.if-eq.ensures) refl)

pub loop-x-preserved : goal.loop-x-preserved
loop-x-preserved g c =
    let step = c.in-Some.ensures.steps in
    go_on (g.F.FileSystem.together c.args.files.now) _ _ _ _ _ _ step.0 step.1 c.if-ne.ensures ∙ c.loop-x.invariant

pub rows-preserved : goal.rows-preserved
rows-preserved g c =
    let t = g.F.FileSystem.together c.args.files.now in
    let aside = option_map (λ x. x.now) c.args.aside in
    let x = c.args.name.now in
    let step = c.in-Some.ensures.steps in
    let all = side_by_side t c.as_slice-old.result.now x c.into_iter-x-iterator.ensures.into_iter_gives c.zip-x-items.ensures.first
    c.zip-x-items.ensures.second c.of.ensures.answer c.of-in-rows.ensures.answer in
    let apart = sym (c.if-lie_together.ensures ∙ (differ t _ _ _ _ _ _ step.0 step.1 c.if-ne.ensures ∙ (c.loop-x.invariant ∙ all))) in
    not_here (λ e. not (left_aside aside e.name) && meet t e.name x) _ _ c.rows.invariant _
    (row_here c.deref-row-items.result.now c.rows.place _ c.row-item.is c.rows-test.true)
    (passes t aside _ _ x false false c.as_slice-old.ensures.value (out_is c.args.aside c.as_slice-old.result false c.if-eq.ensures) apart)

pub returns-then-lie_together : goal.returns-then-lie_together
unfolding first_meeting
returns-then-lie_together g c =
    let t = g.F.FileSystem.together c.args.files.now in
    let aside = option_map (λ x. x.now) c.args.aside in
    let x = c.args.name.now in
    let whole = ap (map entry_of) c.deref-row-items.ensures.0 ∙ c.self.view_is in
    let step = c.in-Some.ensures.steps in
    let all = side_by_side t c.as_slice-old.result.now x c.into_iter-x-iterator.ensures.into_iter_gives c.zip-x-items.ensures.first
    c.zip-x-items.ensures.second c.of.ensures.answer c.of-in-rows.ensures.answer in
    let met = sym (c.if-lie_together.ensures ∙ (differ t _ _ _ _ _ _ step.0 step.1 c.if-ne.ensures ∙ (c.loop-x.invariant ∙ all))) in
    found_here (λ e. not (left_aside aside e.name) && meet t e.name x) _ _ c.rows.invariant _
    (row_here c.deref-row-items.result.now c.rows.place _ c.row-item.is c.rows-test.true)
    (passes t aside _ _ x false true c.as_slice-old.ensures.value (out_is c.args.aside c.as_slice-old.result false c.if-eq.ensures) met)
    ∙ ap (first_meeting t aside x) whole

pub returns-in-None : goal.returns-in-None
unfolding first_meeting
returns-in-None g c =
    let t = g.F.FileSystem.together c.args.files.now in
    let aside = option_map (λ x. x.now) c.args.aside in
    let x = c.args.name.now in
    let whole = ap (map entry_of) c.deref-row-items.ensures.0 ∙ c.self.view_is in
    let all = side_by_side t c.as_slice-old.result.now x c.into_iter-x-iterator.ensures.into_iter_gives c.zip-x-items.ensures.first
    c.zip-x-items.ensures.second c.of.ensures.answer c.of-in-rows.ensures.answer in
    let met = sym (c.loop-x.invariant ∙ all) ∙ ends t _ _ (⊎_elim (λ u. inl u.1.0) (λ u. inr u.1.0) c.in-None.ensures.steps) in
    found_here (λ e. not (left_aside aside e.name) && meet t e.name x) _ _ c.rows.invariant _
    (row_here c.deref-row-items.result.now c.rows.place _ c.row-item.is c.rows-test.true)
    (passes t aside _ _ x false true c.as_slice-old.ensures.value (out_is c.args.aside c.as_slice-old.result false c.if-eq.ensures) met)
    ∙ ap (first_meeting t aside x) whole

pub returns-after-rows : goal.returns-after-rows
unfolding first_meeting
returns-after-rows g c =
    let whole = ap (map entry_of) c.deref-row-items.ensures.0 ∙ c.self.view_is in
    found_nowhere _ _ _ c.rows.invariant (row_none c.deref-row-items.result.now c.rows.place (omega (arith, c.rows-test.false))) ∙ ap (first_meeting (g.F.FileSystem.together c.args.files.now) (option_map (λ x. x.now) c.args.aside) c.args.name.now) whole
