-- The row goes in at the place of its name, so the rows stay in order.
use Rattle.std.proofs.Common.{length, sym, ap, subst, arith}
use Rattle.std.proofs.lemmas.List.{length-map}
use Rattle.register.specs.Entries.{InOrder}
use Rattle.register.specs.Rows.{entry_of}
use Rattle.register.proofs.Ordering.{put_rises, slot_within}
use Rattle.register.proofs.Rows.{put_in}
use Rattle.register.proofs.table.Table.put.Goals as goal

pub insert-requires : goal.insert-requires
insert-requires c =
    let rows = c.self.inside.rows.items in
    let long = ap length c.self.view_is in
    (omega arith, (omega (arith, length-map rows entry_of, slot_within c.deref.result.now c.args.self.now, c.slot-place.ensures), omega (arith, length-map rows entry_of)))

pub returns-clause-entries : goal.returns-clause-entries
returns-clause-entries c = put_in _ _ _ _ _ _ c.self.view_is c.insert.ensures.items c.slot-place.ensures c.deref.ensures.0

pub invariant_of-self : goal.invariant_of-self
invariant_of-self c =
    subst InOrder (sym (returns-clause-entries c)) (put_rises _ (subst InOrder c.self.view_is c.self.invariant) (entry_of c.args.row))
