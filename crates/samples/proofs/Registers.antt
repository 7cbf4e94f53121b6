-- What the samples of meeting and of a renamed entry say.
use Rattle.std.specs.Prelude.{codes, refl}
use Rattle.std.proofs.Common.{inl, inr}
use Rattle.tag.specs.Components.{components}
use Rattle.tag.specs.Names.{reads, tag_name}
use Rattle.reference.specs.Names.{partial_name}
use Rattle.characters.specs.Reader.{code_points, next_part, part_by, parts, parts_up_to}
use Rattle.protections.specs.Keys.{hfs_key, ntfs_key}
use Rattle.protections.specs.Names.{short_name}
use Rattle.protections.specs.Rules.{hfs_rule, ntfs_rule, plain_rule}
use Rattle.register_model.specs.Calls.{first_meeting, first_verdict, name_fault, renaming}
use Rattle.register_model.specs.Entries.{first_place, precedes, slot, strike}
use Rattle.samples.specs.Samples.{IsSo}
use Rattle.samples.specs.Samples.Sample.{meeting, rename}

pub below : IsSo (meeting (codes "a") (codes "a/b"))
below together = inr (inl (codes "b", refl))

pub moved_below : IsSo (rename (codes "a") (codes "a/b"))
unfolding renaming name_fault first_verdict first_meeting first_place slot strike precedes partial_name tag_name reads components hfs_rule ntfs_rule plain_rule hfs_key ntfs_key short_name code_points parts parts_up_to next_part part_by
moved_below n mode = refl
