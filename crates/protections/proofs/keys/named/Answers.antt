-- The cursors yield the numbers of the component and those of the name.
use Rattle.std.proofs.Common.{◌∙◌}
use Rattle.protections.proofs.Compared.{eq_from_lists}
use Rattle.protections.proofs.keys.named.Goals as goal

pub returns : goal.returns
returns g c = eq_from_lists _ _ _ _ _ c.eq.ensures.ran ∙ rw (c.new.ensures.numbers, c.new-2.ensures.numbers)
