-- What a protection means that is one of the five: each case is written out.
use Rattle.std.specs.Prelude.{◌≡◌, ◌⊎◌, ℕ, List, [], Option, Contains, codes}
use Rattle.protections.specs.declared.rules.Mode.{Mode}
use Rattle.protections.specs.Keys.{lowered, until_any, hfs_key, ntfs_key}
use Rattle.protections.specs.Names.{git, modules, ntfs_git, ntfs_modules, ShortName}
use Rattle.protections.specs.Rules.{windows_rule, hfs_rule, ntfs_rule, device_rule, plain_rule}
use Rattle.filesystems.specs.Keys.{Key, bytes_key}
use Rattle.piles.specs.declared.any_protection.AnyProtection.{AnyProtection}
use Rattle.piles.specs.declared.any_protection.AnyProtection.TheVariants.{WindowsNames, Hfs, Ntfs, WindowsDevices, Plain}

-- the number of its verdict on a component and its mode, if there is one
abbrev pub rule_of : AnyProtection → List ℕ → Option Mode → Option ℕ
rule_of WindowsNames s mode = windows_rule s mode
rule_of Hfs s mode = hfs_rule s mode
rule_of Ntfs s mode = ntfs_rule s mode
rule_of WindowsDevices s mode = device_rule s mode
rule_of Plain s mode = plain_rule s mode

-- it takes the component for .git
abbrev pub StandsForGit : AnyProtection → List ℕ → Type 0
StandsForGit WindowsNames s = ⊥
StandsForGit Hfs s = hfs_key s ≡ git
StandsForGit Ntfs s = Contains ntfs_git (ntfs_key s)
StandsForGit WindowsDevices s = ⊥
StandsForGit Plain s = lowered s ≡ git

-- it takes the component for .gitmodules
abbrev pub StandsForModules : AnyProtection → List ℕ → Type 0
StandsForModules WindowsNames s = ⊥
StandsForModules Hfs s = hfs_key s ≡ modules
StandsForModules Ntfs s = Contains ntfs_modules (ntfs_key s) ⊎ ShortName (ntfs_key s)
StandsForModules WindowsDevices s = ⊥
StandsForModules Plain s = lowered s ≡ modules

-- its key
abbrev pub key_of : AnyProtection → Key
key_of WindowsNames = bytes_key
key_of Hfs = hfs_key
key_of Ntfs = ntfs_key
key_of WindowsDevices = bytes_key
key_of Plain = bytes_key

-- the numbers that a component yields: its key, and then those at its end that do not count
abbrev pub yielded_of : AnyProtection → List ℕ → List ℕ
yielded_of WindowsNames s = s
yielded_of Hfs s = hfs_key s
yielded_of Ntfs s = lowered (until_any (codes ":") s)
yielded_of WindowsDevices s = s
yielded_of Plain s = s

-- the numbers that do not count at the end
abbrev pub ignored_of : AnyProtection → List ℕ
ignored_of WindowsNames = []
ignored_of Hfs = []
ignored_of Ntfs = codes " ."
ignored_of WindowsDevices = []
ignored_of Plain = []
