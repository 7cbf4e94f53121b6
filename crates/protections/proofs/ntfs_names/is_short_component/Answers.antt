-- The first eight bytes are a short name, and the others only fillers.
use Rattle.std.proofs.Common.{false, ◌∙◌, rules}
use Rattle.protections.proofs.ShortComponent.{parts_short_component, short_component_by}
use Rattle.protections.proofs.Equal.{tested}
use Rattle.protections.proofs.ntfs_names.is_short_component.Goals as goal

pub returns : goal.returns
returns c =
    tested (parts_short_component c.args.component.now) false c.split_at_checked.result c.is_some_and.result _ c.is_some_and.ensures (λ p h. search rules)
    ∙ short_component_by c.args.component.now c.split_at_checked.result c.split_at_checked.ensures.cases
