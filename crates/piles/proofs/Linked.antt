-- Which components NTFS takes for .gitmodules, as a link, in words.
use Rattle.std.proofs.Common.{◌≡◌, ℕ, Bool, true, false, ◌||◌, ◌⊎◌, ◌↔◌, List, Some, None, Option, Decides, Contains, refl, sym, ap, arith, is_some, unwrap_or, true≢false}
use Rattle.std.proofs.lemmas.Bool.Decides.{Decides-or}
use Rattle.protections.specs.declared.rules.Mode.{Mode}
use Rattle.protections.specs.declared.rules.Mode.TheVariants.{Symlink}
use Rattle.protections.specs.Keys.{ntfs_key}
use Rattle.protections.specs.Names.{ntfs_git, ntfs_modules, is_listed, short_name, ShortName}
use Rattle.protections.specs.Rules.{guarded, ntfs_rule}
use Rattle.protections.proofs.NamesDecided.{is_listed-decides, short_decides}

-- neither no number nor another one is 27

none_27 : {A : Type 0} → ◌≡◌ {A = Option ℕ} None (Some 27) → A
none_27 e = absurd (true≢false (sym (ap is_some e)))

git_27 : {A : Type 0} → ◌≡◌ {A = Option ℕ} (Some 26) (Some 27) → A
git_27 e = let n : ◌≡◌ {A = ℕ} 26 27 = ap (λ o. unwrap_or o 0) e in absurd (omega arith)

no_link : {A : Type 0} → ◌≡◌ {A = Option Mode} None (Some Symlink) → A
no_link e = absurd (true≢false (sym (ap is_some e)))

untrue : {A : Type 0} → false ≡ true → A
untrue e = absurd (true≢false (sym e))

-- 27 is given to a link that stands for .gitmodules, and not for .git
linked : {G M : Type 0} (is_git is_modules : Bool) (mode : Option Mode) → Decides is_git G → Decides is_modules M
    → (guarded is_git is_modules mode ≡ Some 27) ↔ (mode ≡ Some Symlink) × M × (G → ⊥)
linked true is_modules mode g m = (λ e. git_27 e, λ h. absurd (h.2 (g.0 refl)))
linked false is_modules None g m = (λ e. none_27 e, λ h. no_link h.0)
linked false true (Some Symlink) g m = (λ e. (refl, m.0 refl, λ h. untrue (g.1 h)), λ h. refl)
linked false false (Some Symlink) g m = (λ e. none_27 e, λ h. untrue (m.1 h.1))

pub ntfs_link : (s : List ℕ) (mode : Option Mode)
    → (ntfs_rule s mode ≡ Some 27) ↔ (mode ≡ Some Symlink) × (Contains ntfs_modules (ntfs_key s) ⊎ ShortName (ntfs_key s)) × (Contains ntfs_git (ntfs_key s) → ⊥)
unfolding ntfs_rule
ntfs_link s mode =
    linked (is_listed ntfs_git (ntfs_key s)) (is_listed ntfs_modules (ntfs_key s) || short_name (ntfs_key s)) mode (is_listed-decides ntfs_git (ntfs_key s))
    (Decides-or (is_listed ntfs_modules (ntfs_key s)) (short_name (ntfs_key s)) (is_listed-decides ntfs_modules (ntfs_key s)) (short_decides (ntfs_key s)))
