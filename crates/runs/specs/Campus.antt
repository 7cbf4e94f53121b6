-- What a register of partial names on HFS+ over NTFS over the plain bottom means.
use Rattle.std.specs.Prelude.{◌||◌, [], ◌∷◌}
use Rattle.mending.specs.Mender.{mended as mended_name}
use Rattle.protections.specs.Keys.{hfs_key, ntfs_key}
use Rattle.protections.specs.Rules.{hfs_rule, ntfs_rule, plain_rule}
use Rattle.std.specs.Str.{bytes_eq}
use Rattle.rulebooks.specs.Kinds.{partial_names}
use Rattle.std.specs.Option.{option_or}
use Rattle.filesystems.specs.Keys.{bytes_key}
use Rattle.register_model.specs.Calls.{Meaning}

abbrev pub campus : Meaning
campus = record {
  kind = 1;
  ruling = partial_names;
  mended = mended_name;
  verdict = λ s mode.
      option_or (hfs_rule s mode) (option_or (ntfs_rule s mode) (plain_rule s mode));
  together = λ a b.
      bytes_eq (hfs_key a) (hfs_key b) || (bytes_eq (ntfs_key a) (ntfs_key b) || bytes_eq a b);
  keys = hfs_key ∷ ntfs_key ∷ bytes_key ∷ [];
}
