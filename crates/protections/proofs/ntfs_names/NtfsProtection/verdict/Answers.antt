-- The names can be keys, and the test for short names is the rule in words.
use Rattle.std.proofs.Common.{refl}
use Rattle.protections.specs.Keys.{ntfs_key}
use Rattle.protections.proofs.NamesDecided.{short_decides}
use Rattle.protections.specs.NameEnds.{is_ended_key}
use Rattle.protections.proofs.ntfs_names.NtfsProtection.verdict.Goals as goal

pub is_named_among-requires : goal.is_named_among-requires
unfolding is_ended_key
is_named_among-requires c = (refl, (refl, tt))

pub returns-clause-short_names : goal.returns-clause-short_names
returns-clause-short_names c = short_decides (ntfs_key c.args.component.now)
