-- The plain protection need not be asked where HFS+ or NTFS is on.
use Rattle.std.proofs.Common.{◌≡◌, ℕ, Bool, true, false, not, ◌&&◌, ◌||◌, List, Some, None, Option, refl, ap}
use Rattle.std.specs.Option.{option_or}
use Rattle.protections.specs.declared.rules.Mode.{Mode}
use Rattle.protections.specs.Rules.{windows_rule, hfs_rule, ntfs_rule, device_rule, plain_rule}
use Rattle.protections.proofs.Agree.{hfs_covers, ntfs_covers}
use Rattle.path.specs.declared.Options.{Options}
use Rattle.path.specs.Rule.{if_on, verdict_before, checked, component_rule, component_rule_by_need}

-- the last verdict p does not matter where an earlier one refuses what p refuses

abbrev Chain : Option ℕ → Bool → Option ℕ → Bool → Option ℕ → Option ℕ → Option ℕ → Option ℕ
Chain a h b n c d p = option_or a (option_or (if_on h b) (option_or (if_on n c) (option_or d p)))

needless : (a b c d p : Option ℕ) (h n : Bool) → ((m : ℕ) → p ≡ Some m → b ≡ p) → ((m : ℕ) → p ≡ Some m → c ≡ p) →
    Chain a h b n c d p ≡ Chain a h b n c d (if_on (not (h || n)) p)
needless (Some x) b c d p h n f g = refl
needless None b c d p false false f g = refl
needless None b c d None true n f g = refl
needless None b c d (Some m) true n f g = rw (f m refl)
needless None b c d None false true f g = refl
needless None b c d (Some m) false true f g = rw (g m refl)

pub by_need : (s : List ℕ) (mode : Option Mode) (o : Options) → component_rule s mode o ≡ component_rule_by_need s mode o
unfolding component_rule component_rule_by_need verdict_before
by_need s mode o =
    ap (checked s)
    (needless (if_on o.protect_windows (windows_rule s mode)) (hfs_rule s mode) (ntfs_rule s mode)
    (if_on (o.protect_windows && o.protect_ntfs) (device_rule s mode))
    (plain_rule s mode)
    o.protect_hfs
    o.protect_ntfs
    (hfs_covers s mode)
    (ntfs_covers s mode))
