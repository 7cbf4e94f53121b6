-- The names precedes the place that the search gives come precedes this one, and the others do not.
use Rattle.std.proofs.Common.{map, sym, ap, ◌∙◌, rules}
use Rattle.std.proofs.lemmas.List.Sorted.{IsPartitionPoint-from_clause}
use Rattle.register_model.specs.Entries.{precedes, slot}
use Rattle.register.specs.Rows.{entry_of}
use Rattle.register.proofs.Ordering.{is_lt-slice_partial_cmp}
use Rattle.register.proofs.Rows.{rows_split, slot_of_rows}
use Rattle.register.proofs.table.Table.slot.Goals as goal

pub returns : goal.returns
returns c =
    let x = c.args.name.now in
    let rows = c.deref.result.now in
    let point = IsPartitionPoint-from_clause (λ r. precedes r.name.items x) rows _ c.partition_point.ensures.partitioned
    (rows_split rows x (rw c.deref.ensures.0 c.self.invariant))
    (λ a r f' called. search (rules, is_lt-slice_partial_cmp)) in
    sym (slot_of_rows x rows _ c.partition_point.ensures.bound point.0 point.1) ∙ (ap (λ t. slot x (map entry_of t)) c.deref.ensures.0 ∙ ap (slot x) c.self.view_is)
