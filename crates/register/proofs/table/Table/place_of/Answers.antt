-- The row at the slot of the name has it, or none has it.
use Rattle.std.proofs.Common.{◌≡◌, ◌<◌, ◌≤◌, length, get_or, map, sym, ap, ◌∙◌, subst, arith}
use Rattle.std.specs.Bool.{then_some}
use Rattle.std.specs.Str.{bytes_eq}
use Rattle.std.proofs.Math.ListN.{get_or-map}
use Rattle.std.proofs.lemmas.Bool.Decides.{Decides-eqb, nat_tests, same_from_decides}
use Rattle.std.proofs.lemmas.List.{length-map}
use Rattle.std.proofs.lemmas.Slice.Eq.{bytes_eq-Decides, slice_eq-Decides}
use Rattle.register_model.specs.Entries.{place_of, slot}
use Rattle.register.specs.Rows.{entry_of}
use Rattle.register.proofs.Placing.{placed, unplaced}
use Rattle.register.proofs.table.Table.place_of.Goals as goal

pub returns-in_err-row : goal.returns-in_err-row
returns-in_err-row c =
    let es = map entry_of c.self.inside.rows.items in
    let long = length-map c.self.inside.rows.items entry_of in
    let past : length es ≤ c.slot-place.result = grind (arith, nat_tests, c.in_err-row.ensures.lookup.0, ap length c.deref.ensures.0) in
    let at = c.slot-place.ensures ∙ ap (slot c.args.name.now) (sym c.self.view_is) in
    c.from_residual.ensures ∙ (unplaced c.args.name.now es c.self.invariant (subst (λ n. length es ≤ n) at past) ∙ ap (place_of c.args.name.now) c.self.view_is)

pub returns : goal.returns
returns c =
    let rows = c.self.inside.rows.items in
    let es = map entry_of rows in
    let x = c.args.name.now in
    let row = c.in_ok-row.row.now in
    let long = length-map rows entry_of in
    let below : c.slot-place.result < length es = grind (arith, nat_tests, c.in_ok-row.ensures.lookup.0, ap length c.deref.ensures.0) in
    let at = c.slot-place.ensures ∙ ap (slot x) (sym c.self.view_is) in
    let same = same_from_decides _ _ (slice_eq-Decides Decides-eqb _ _ _ c.eq.ensures) (bytes_eq-Decides c.as_slice.result.now x) ∙ ap (λ z. bytes_eq z x) c.as_slice.ensures.value in
    let here : row ≡ get_or rows c.slot-place.result row = c.in_ok-row.ensures.lookup.1 ∙ ap (λ l. get_or l c.slot-place.result row) c.deref.ensures.0 in
    let entry = ap entry_of here ∙ sym (get_or-map entry_of rows c.slot-place.result row) in
    c.then_some.ensures
    ∙ (ap (then_some c.eq.result) at
    ∙ (placed x es c.self.invariant (subst (λ n. n < length es) at below) (entry_of row) (entry ∙ ap (λ n. get_or es n (entry_of row)) at) c.eq.result same
    ∙ ap (place_of x) c.self.view_is))
