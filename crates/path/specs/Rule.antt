-- The number that `component` refuses by, or none, for every byte string, mode and setting.
use Rattle.std.specs.Prelude.{ℕ, Bool, if◌then◌else◌, not, ◌&&◌, ◌||◌, List, length, Some, None, Option, ◌==◌}
use Rattle.std.specs.List.{list_any}
use Rattle.std.specs.Option.{option_or}
use Rattle.std.specs.Str.{byte}
use Rattle.protections.specs.declared.rules.Mode.{Mode}
use Rattle.protections.specs.Rules.{windows_rule, hfs_rule, ntfs_rule, device_rule, plain_rule}
use Rattle.path.specs.declared.Options.{Options}
use Rattle.tag.specs.Components.{is_relative}

-- a verdict that is asked for only with its protection on
abbrev pub if_on : Bool → Option ℕ → Option ℕ
if_on on v = if on then v else None

-- the first verdict of Windows names, HFS+, NTFS and Windows devices, as far as they are on, and of the last one
unfoldable pub verdict_before : List ℕ → Option Mode → Options → Option ℕ → Option ℕ
verdict_before s mode o last =
    option_or (if_on o.protect_windows (windows_rule s mode))
    (option_or (if_on o.protect_hfs (hfs_rule s mode))
    (option_or (if_on o.protect_ntfs (ntfs_rule s mode))
    (option_or (if_on (o.protect_windows && o.protect_ntfs) (device_rule s mode)) last)))

-- 21 for empty, 28 for . and .., 22 for a slash, then the verdict
abbrev pub checked : List ℕ → Option ℕ → Option ℕ
checked s verdict =
    if length s == 0 then Some 21
    else if is_relative s then Some 28
    else if list_any (λ b. b == byte "/") s then Some 22
    else verdict

-- the plain protection is always asked
unfoldable pub component_rule : List ℕ → Option Mode → Options → Option ℕ
component_rule s mode o = checked s (verdict_before s mode o (plain_rule s mode))

-- the plain protection is asked only where it is needed, with HFS+ and NTFS off
unfoldable pub component_rule_by_need : List ℕ → Option Mode → Options → Option ℕ
component_rule_by_need s mode o =
    checked s
    (verdict_before s mode o (if_on (not (o.protect_hfs || o.protect_ntfs)) (plain_rule s mode)))
