-- The others stay in order.
use Rattle.std.proofs.Common.{sym, subst}
use Rattle.register.specs.Entries.{InOrder}
use Rattle.register.proofs.Ordering.{remove_rises}
use Rattle.register.proofs.Rows.{taken_out}
use Rattle.register.proofs.table.Table.remove.Goals as goal

pub returns : goal.returns
returns c = taken_out _ _ _ _ c.self.view_is c.remove.ensures.items

pub invariant_of-self : goal.invariant_of-self
invariant_of-self c =
    subst InOrder (sym (returns c)) (remove_rises _ (subst InOrder c.self.view_is c.self.invariant) _ c.requires)
