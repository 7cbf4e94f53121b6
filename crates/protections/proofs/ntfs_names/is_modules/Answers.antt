-- The names can be keys.
use Rattle.std.proofs.Common.{refl}
use Rattle.protections.specs.NameEnds.{is_ended_key}
use Rattle.protections.proofs.ntfs_names.is_modules.Goals as goal

pub is_named_among-requires : goal.is_named_among-requires
unfolding is_ended_key
is_named_among-requires c = (refl, (refl, (refl, (refl, (refl, tt)))))
