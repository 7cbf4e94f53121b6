-- The words of the command line that name a kind or a layer.
use Rattle.std.specs.Prelude.{ℕ, List, codes}
use Rattle.tool.specs.declared.checks.Kind.{Kind}
use Rattle.tool.specs.declared.checks.Kind.TheVariants.{Tag, Partial, Complete, Branch, Path}
use Rattle.piles.specs.declared.any_protection.AnyProtection.{AnyProtection}
use Rattle.piles.specs.declared.any_protection.AnyProtection.TheVariants.{WindowsNames, Hfs, Ntfs}
use Rattle.piles.specs.declared.any_protection.AnyProtection.TheVariants.{WindowsDevices, Plain}

-- the word that names a kind
abbrev pub kind_word : Kind → List ℕ
kind_word Tag = codes "tag"
kind_word Partial = codes "partial"
kind_word Complete = codes "complete"
kind_word Branch = codes "branch"
kind_word Path = codes "path"

-- the word that names a layer
abbrev pub layer_word : AnyProtection → List ℕ
layer_word WindowsNames = codes "windows-names"
layer_word Hfs = codes "hfs"
layer_word Ntfs = codes "ntfs"
layer_word WindowsDevices = codes "windows-devices"
layer_word Plain = codes "plain"
