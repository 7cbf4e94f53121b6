-- The verdict of each protection on a component and its mode: none, or a number.
use Rattle.std.specs.Prelude.{ℕ, ◌-◌, Bool, true, false, if◌then◌else◌, ◌&&◌, ◌||◌, List, length, Some, None, codes, Option, ◌==◌, nat_lt, slice_index, bytes_eq}
use Rattle.std.specs.Option.{option_map}
use Rattle.std.specs.Str.{byte}
use Rattle.characters.specs.Reader.{code_points}
use Rattle.protections.specs.declared.rules.Mode.{Mode}
use Rattle.protections.specs.declared.rules.Mode.TheVariants.{Symlink}
use Rattle.protections.specs.declared.rules.Verdict.{Verdict}
use Rattle.protections.specs.declared.rules.Verdict.TheVariants.{PathSeparator, WindowsPathPrefix, WindowsReservedName, WindowsIllegalCharacter, DotGitDir, SymlinkedGitModules}
use Rattle.std.specs.List.{list_any}
use Rattle.std.specs.Char.{char_set_contains}
use Rattle.protections.specs.Keys.{lowered, hfs_key, ntfs_key, device_key}
use Rattle.protections.specs.Names.{git, modules, ntfs_git, ntfs_modules, short_name, devices, illegal_marks, is_listed}

-- the number of a verdict
abbrev pub verdict_number : Verdict → ℕ
verdict_number PathSeparator = 22
verdict_number WindowsPathPrefix = 23
verdict_number WindowsReservedName = 24
verdict_number WindowsIllegalCharacter = 25
verdict_number DotGitDir = 26
verdict_number SymlinkedGitModules = 27

-- the number of a verdict, where there is one
abbrev pub numbered : Option Verdict → Option ℕ
numbered v = option_map verdict_number v

-- the component is a symbolic link
abbrev pub is_symlink : Option Mode → Bool
is_symlink None = false
is_symlink (Some Symlink) = true

-- 26 for .git, and 27 for a link .gitmodules
abbrev pub guarded : Bool → Bool → Option Mode → Option ℕ
guarded is_git is_modules mode =
    if is_git then Some 26 else if is_symlink mode && is_modules then Some 27 else None

-- 22 for a backslash, else 23 when the second character is a colon
unfoldable pub windows_rule : List ℕ → Option Mode → Option ℕ
windows_rule s mode =
    if list_any (λ b. b == byte "\\") s then Some 22
    else if slice_index (code_points s) 1 == byte ":" then Some 23 else None

-- 26 and 27 by the key of HFS+
unfoldable pub hfs_rule : List ℕ → Option Mode → Option ℕ
hfs_rule s mode = guarded (bytes_eq (hfs_key s) git) (bytes_eq (hfs_key s) modules) mode

-- 26 and 27 by the key of NTFS, which may be one of several names
unfoldable pub ntfs_rule : List ℕ → Option Mode → Option ℕ
ntfs_rule s mode =
    guarded (is_listed ntfs_git (ntfs_key s))
    (is_listed ntfs_modules (ntfs_key s) || short_name (ntfs_key s))
    mode

-- the component's device key is one of the listed names
unfoldable pub is_device : List ℕ → Bool
is_device s = is_listed devices (device_key s)

-- below 0x20, or one of the marks
abbrev pub is_illegal_byte : ℕ → Bool
is_illegal_byte b = nat_lt b 0x20 || char_set_contains illegal_marks b

-- such a byte anywhere
unfoldable pub has_illegal : List ℕ → Bool
has_illegal s = list_any is_illegal_byte s

-- the last byte is a dot or a space
unfoldable pub ends_illegally : List ℕ → Bool
ends_illegally s = char_set_contains (codes ". ") (slice_index s (length s - 1))

-- 24 for a device, else 25 for an illegal character
unfoldable pub device_rule : List ℕ → Option Mode → Option ℕ
device_rule s mode =
    if is_device s then Some 24 else if has_illegal s || ends_illegally s then Some 25 else None

-- 26 and 27 by the bytes with A to Z made small
unfoldable pub plain_rule : List ℕ → Option Mode → Option ℕ
plain_rule s mode = guarded (bytes_eq (lowered s) git) (bytes_eq (lowered s) modules) mode
