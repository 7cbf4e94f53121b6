-- What the samples of components say: by computing, once each setting and mode on which it depends is known.
use Rattle.std.specs.Prelude.{◌≡◌, Bool, true, false, ◌∷◌, Some, None, codes, refl, Option}
use Rattle.characters.specs.Reader.{code_points, next_part, part_by, parts, parts_up_to}
use Rattle.protections.specs.declared.rules.Mode.{Mode}
use Rattle.protections.specs.declared.rules.Mode.TheVariants.{Symlink}
use Rattle.protections.specs.Keys.{device_key, hfs_key, ntfs_key}
use Rattle.protections.specs.Names.{short_name}
use Rattle.protections.specs.Rules.{device_rule, ends_illegally, has_illegal, hfs_rule, is_device, ntfs_rule, plain_rule, windows_rule}
use Rattle.path.specs.Rule.{component_rule, verdict_before}
use Rattle.samples.specs.Samples.{IsSo}
use Rattle.samples.specs.Samples.Checked.{anyhow, as_link}
use Rattle.samples.specs.Samples.Sample.{component}
use Rattle.samples.specs.Samples.Setting.{on, off, either}

pub slash_inside : IsSo (component (codes ".git:/x") anyhow (record { windows = either; hfs = either; ntfs = either }) (Some 22))
unfolding component_rule
slash_inside mode o f w h n = refl

pub lpt_zero : IsSo (component (codes "LPT0") anyhow (record { windows = on; hfs = either; ntfs = on }) (Some 24))
unfolding component_rule verdict_before windows_rule hfs_rule ntfs_rule device_rule plain_rule is_device device_key ntfs_key hfs_key short_name code_points parts parts_up_to next_part part_by
lpt_zero mode o f w h n = rw w (rw n (at mode o.protect_hfs))
  where
    at : (m : Option Mode) (hfs : Bool) → component_rule (codes "LPT0") m (record { protect_windows = true; protect_hfs = hfs; protect_ntfs = true }) ≡ Some 24
    at None true = refl
    at None false = refl
    at (Some Symlink) true = refl
    at (Some Symlink) false = refl

pub com_zero : IsSo (component (codes "COM0") anyhow (record { windows = on; hfs = either; ntfs = on }) None)
unfolding component_rule verdict_before windows_rule hfs_rule ntfs_rule device_rule plain_rule is_device has_illegal ends_illegally device_key ntfs_key hfs_key short_name code_points parts parts_up_to next_part part_by
com_zero mode o f w h n = rw w (rw n (at mode o.protect_hfs))
  where
    at : (m : Option Mode) (hfs : Bool) → component_rule (codes "COM0") m (record { protect_windows = true; protect_hfs = hfs; protect_ntfs = true }) ≡ None
    at None true = refl
    at None false = refl
    at (Some Symlink) true = refl
    at (Some Symlink) false = refl

pub start_of_character : IsSo (component (226 ∷ 130 ∷ codes ":") anyhow (record { windows = on; hfs = either; ntfs = either }) (Some 23))
unfolding component_rule verdict_before windows_rule code_points parts parts_up_to next_part part_by
start_of_character mode o f w h n = rw w refl

pub no_character : IsSo (component (240 ∷ 128 ∷ codes ":") anyhow (record { windows = on; hfs = off; ntfs = off }) None)
unfolding component_rule verdict_before windows_rule plain_rule has_illegal ends_illegally code_points parts parts_up_to next_part part_by
no_character mode o f w h n = rw w (rw h (rw n (at mode)))
  where
    at : (m : Option Mode) → component_rule (240 ∷ 128 ∷ codes ":") m (record { protect_windows = true; protect_hfs = false; protect_ntfs = false })
        ≡ None
    at None = refl
    at (Some Symlink) = refl

pub short_link : IsSo (component (codes "~1000000") as_link (record { windows = either; hfs = either; ntfs = on }) (Some 27))
unfolding component_rule verdict_before windows_rule hfs_rule ntfs_rule ntfs_key hfs_key short_name code_points parts parts_up_to next_part part_by
short_link mode o f w h n = rw f (rw n (at o.protect_windows o.protect_hfs))
  where
    at : (v hfs : Bool) → component_rule (codes "~1000000") (Some Symlink) (record { protect_windows = v; protect_hfs = hfs; protect_ntfs = true }) ≡ Some 27
    at true true = refl
    at true false = refl
    at false true = refl
    at false false = refl
