-- The rest has no letters, and the front is compared with its letters made small.
use Rattle.std.proofs.Common.{false, ◌∙◌, rules}
use Rattle.protections.proofs.Equal.{tested}
use Rattle.protections.proofs.Short.{parts_short, short_by}
use Rattle.protections.proofs.ntfs_names.is_short_at.Goals as goal

pub returns : goal.returns
returns c =
    tested (parts_short c.args.name.now c.args.kept) false c.split_at_checked.result c.is_some_and.result _ c.is_some_and.ensures (λ p h. search rules)
    ∙ short_by c.args.name.now c.args.kept c.split_at_checked.result c.split_at_checked.ensures.cases
