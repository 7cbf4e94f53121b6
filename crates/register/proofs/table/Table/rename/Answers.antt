-- The row is lent and written over, taken out, and put in at the place of its new name.
use Rattle.std.proofs.Common.{get_or, map, sym, ap, ◌∙◌, subst}
use Rattle.register_model.specs.Entries.{put, slot}
use Rattle.std.specs.List.{remove}
use Rattle.register.specs.Entries.{InOrder}
use Rattle.register.specs.declared.table.Row.{Row}
use Rattle.register.specs.Rows.{entry_of}
use Rattle.register.proofs.Ordering.{remove_rises}
use Rattle.register.proofs.Renaming.{number_lent, others_left, taken_new}
use Rattle.register.proofs.table.Table.rename.Goals as goal

pub invariant_of-self : goal.invariant_of-self
invariant_of-self c =
    let left = others_left c.self.inside.rows.items _ _ _ c.requires c.self.view_is c.deref_mut.ensures.value _ _ c.remove-row.ensures.items in
    subst InOrder (sym left) (remove_rises _ (subst InOrder c.self.view_is c.self.invariant) _ c.requires)

pub returns-clause-place : goal.returns-clause-place
returns-clause-place c =
    let rows = c.self.inside.rows.items in
    let left = others_left rows _ _ _ c.requires c.self.view_is c.deref_mut.ensures.value _ _ c.remove-row.ensures.items in
    let taken = taken_new rows _ _ _ c.requires c.self.view_is c.deref_mut.ensures.value _ _ c.remove-row.ensures.value in
    c.put.ensures.place ∙ (ap (λ r. slot r.name.items (map entry_of c.remove-row.new.self.items)) taken ∙ ap (slot c.args.name.items) left)

pub returns-clause-entries : goal.returns-clause-entries
returns-clause-entries c =
    let rows = c.self.inside.rows.items in
    let old = c.index-deref_mut-from.result in
    let left = others_left rows _ _ _ c.requires c.self.view_is c.deref_mut.ensures.value _ _ c.remove-row.ensures.items in
    let taken = taken_new rows _ _ _ c.requires c.self.view_is c.deref_mut.ensures.value _ _ c.remove-row.ensures.value in
    let number = number_lent rows c.deref_mut.result.now c.args.self.now c.args.from c.requires c.self.view_is c.deref_mut.ensures.value old old in
    let new : Row = record { name = c.args.name; number = (get_or c.deref_mut.result.now c.args.from old).number; mode = c.args.mode } in
    c.put.ensures.entries
    ∙ (ap (λ r. put (entry_of r) (map entry_of c.remove-row.new.self.items)) taken
    ∙ (ap (put (entry_of new)) left
    ∙ ap (λ n. put (record { name = c.args.name.items; number = n; mode = c.args.mode }) (remove c.args.self.now c.args.from)) number))
