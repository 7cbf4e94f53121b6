-- Which refusal comes first, in words: the places of the checks in their order, and what is refused at each.
use Rattle.std.specs.Prelude.{◌≡◌, ℕ, ◌<◌, List, [], Some, None, Option, Contains, IsTrue}
use Rattle.std.specs.Str.{byte}
use Rattle.tag.specs.Components.{IsRelative}
use Rattle.protections.specs.declared.rules.Mode.{Mode}
use Rattle.protections.specs.Rules.{windows_rule, hfs_rule, ntfs_rule, device_rule, plain_rule}
use Rattle.path.specs.declared.Options.{Options}

-- the rule at this place refuses the component, and by this number
pub data Refuses (s : List ℕ) (mode : Option Mode) (o : Options) : ℕ → ℕ → Type 0 where
  no_byte : s ≡ [] → Refuses s mode o 0 21
  relative : IsRelative s → Refuses s mode o 1 28
  slash : Contains s (byte "/") → Refuses s mode o 2 22
  windows_names : {n : ℕ} → IsTrue o.protect_windows → windows_rule s mode ≡ Some n →
      Refuses s mode o 3 n
  hfs : {n : ℕ} → IsTrue o.protect_hfs → hfs_rule s mode ≡ Some n → Refuses s mode o 4 n
  ntfs : {n : ℕ} → IsTrue o.protect_ntfs → ntfs_rule s mode ≡ Some n → Refuses s mode o 5 n
  windows_devices : {n : ℕ} → IsTrue o.protect_windows → IsTrue o.protect_ntfs →
      device_rule s mode ≡ Some n → Refuses s mode o 6 n
  plain : {n : ℕ} → plain_rule s mode ≡ Some n → Refuses s mode o 7 n

-- as IsFirst of tag, on a number or none: a refusal is that of a rule that refuses at its place, where none does at an
-- earlier place; and there is none exactly where no rule refuses at any place
abbrev pub IsFirstRefusal : List ℕ → Option Mode → Options → Option ℕ → Type 0
IsFirstRefusal s mode o None = (place m : ℕ) → Refuses s mode o place m → ⊥
IsFirstRefusal s mode o (Some n) =
    (place : ℕ) × Refuses s mode o place n
    × ((earlier m : ℕ) → earlier < place → Refuses s mode o earlier m → ⊥)
