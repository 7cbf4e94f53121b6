-- The laws of a key, for each of the five protections.
use Rattle.std.specs.Prelude.{◌≡◌, ℕ, ◌<◌, ◌≤◌, List}
use Rattle.std.specs.List.{AllByRecursion}
use Rattle.characters.specs.Standard.{largest_code_point}
use Rattle.protections.specs.Keys.{trimmed, hfs_key}
use Rattle.protections.specs.BoundLemmas.{bytes_bounded, hfs_bounded, ntfs_bounded}
use Rattle.protections.specs.EndLemmas.{none_trimmed, ntfs_trimmed}
use Rattle.piles.specs.AnyProtection.{key_of, yielded_of, ignored_of}
use Rattle.piles.specs.declared.any_protection.AnyProtection.{AnyProtection}
use Rattle.piles.specs.declared.any_protection.AnyProtection.TheVariants.{WindowsNames, Hfs, Ntfs, WindowsDevices, Plain}

-- the key is what is yielded, without the numbers at its end that do not count
pub key_of-trimmed :
    (p : AnyProtection) (s : List ℕ) → key_of p s ≡ trimmed (ignored_of p) (yielded_of p s)
key_of-trimmed WindowsNames s = none_trimmed s
key_of-trimmed Hfs s = none_trimmed (hfs_key s)
key_of-trimmed Ntfs s = ntfs_trimmed s
key_of-trimmed WindowsDevices s = none_trimmed s
key_of-trimmed Plain s = none_trimmed s

-- of bytes, the numbers of the key are at most the largest code point
pub key_of-bounded :
    (p : AnyProtection) (s : List ℕ) → AllByRecursion (λ b. b < 256) s
    → AllByRecursion (λ n. n ≤ largest_code_point) (key_of p s)
key_of-bounded WindowsNames s h = bytes_bounded s h
key_of-bounded Hfs s h = hfs_bounded s
key_of-bounded Ntfs s h = ntfs_bounded s (bytes_bounded s h)
key_of-bounded WindowsDevices s h = bytes_bounded s h
key_of-bounded Plain s h = bytes_bounded s h
