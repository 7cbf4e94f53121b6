-- What the plain protection refuses, HFS+ and NTFS refuse by the same number.
use Rattle.std.proofs.Common.{◌≡◌, ℕ, ◌<◌, Bool, true, false, cond, not, ◌&&◌, ◌⊎◌, List, [], ◌∷◌, Some, None, codes, filter, Option, sym, refl, ap, ◌∙◌, subst, inl, inr, arith}
use Rattle.std.specs.List.{AllByRecursion}
use Rattle.std.proofs.lemmas.Bool.Decides.{nat_tests}
use Rattle.characters.proofs.Ascii.{ascii_points}
use Rattle.protections.specs.declared.rules.Mode.{Mode}
use Rattle.protections.specs.declared.rules.Mode.TheVariants.{Symlink}
use Rattle.std.specs.Prelude.{bytes_eq}
use Rattle.protections.specs.Keys.{lowered, until_any, trimmed, is_passed_over, hfs_key, ntfs_key}
use Rattle.protections.specs.EndLemmas.{colon, space_dot, until_any_lowered, trimmed_lowered}
use Rattle.protections.specs.Names.{git, modules}
use Rattle.protections.specs.Rules.{is_symlink, hfs_rule, ntfs_rule, plain_rule}
use Rattle.protections.proofs.Equal.{bytes_eq-true}

-- HFS+: a name of bytes below 0x80 has its small letters for its key

ascii_from : (s : List ℕ) → AllByRecursion (λ b. b < 128) (lowered s) → AllByRecursion (λ b. b < 128) s
ascii_from [] h = tt
ascii_from (b ∷ s) h = (let l = h.0 in grind (arith, nat_tests), ascii_from s h.1)

shown : (b : ℕ) → b < 128 → is_passed_over b ≡ false
shown b h = grind (arith, nat_tests)

all_shown : (s : List ℕ) → AllByRecursion (λ b. b < 128) s → filter (λ c. not (is_passed_over c)) s ≡ s
all_shown [] h = refl
all_shown (b ∷ s) h = rw (shown b h.0, all_shown s h.1)

hfs_plain : (s : List ℕ) → AllByRecursion (λ b. b < 128) (lowered s) → hfs_key s ≡ lowered s
unfolding hfs_key
hfs_plain s h =
    let low = ascii_from s h in
    ap (λ t. lowered (filter (λ c. not (is_passed_over c)) t)) (ascii_points s low) ∙ ap lowered (all_shown s low)

-- NTFS: small letters may be made first, since no letter is in a set

ntfs_of : (s : List ℕ) → ntfs_key s ≡ trimmed (codes " .") (until_any (codes ":") (lowered s))
unfolding ntfs_key
ntfs_of s =
    trimmed_lowered (codes " .") space_dot (until_any (codes ":") s)
    ∙ ap (trimmed (codes " .")) (until_any_lowered (codes ":") colon s)

-- at the two fixed names all three rules agree

ntfs_git_key : (s : List ℕ) → lowered s ≡ git → ntfs_key s ≡ git
ntfs_git_key s e = ntfs_of s ∙ ap (λ t. trimmed (codes " .") (until_any (codes ":") t)) e

ntfs_modules_key : (s : List ℕ) → lowered s ≡ modules → ntfs_key s ≡ modules
ntfs_modules_key s e = ntfs_of s ∙ ap (λ t. trimmed (codes " .") (until_any (codes ":") t)) e

git_low : AllByRecursion (λ b. b < 128) git
git_low = omega arith

modules_low : AllByRecursion (λ b. b < 128) modules
modules_low = omega arith

hfs_git_key : (s : List ℕ) → lowered s ≡ git → hfs_key s ≡ git
hfs_git_key s e = hfs_plain s (subst (AllByRecursion (λ b. b < 128)) (sym e) git_low) ∙ e

hfs_modules_key : (s : List ℕ) → lowered s ≡ modules → hfs_key s ≡ modules
hfs_modules_key s e = hfs_plain s (subst (AllByRecursion (λ b. b < 128)) (sym e) modules_low) ∙ e

-- what the plain protection refuses
refuses : (s : List ℕ) (mode : Option Mode) (n : ℕ) → plain_rule s mode ≡ Some n → (lowered s ≡ git) ⊎ (lowered s ≡ modules)
unfolding plain_rule
refuses s mode n e = go (bytes_eq (lowered s) git) refl (bytes_eq (lowered s) modules) refl
  where
    none : (m : Option Mode) → cond (is_symlink m && false) (Some 27) None ≡ Some n → ⊥
    none None f = let z : ◌≡◌ {A = ℕ} 0 1 = cc in omega arith
    none (Some Symlink) f = let z : ◌≡◌ {A = ℕ} 0 1 = cc in omega arith

    go : (x : Bool) → bytes_eq (lowered s) git ≡ x → (y : Bool) → bytes_eq (lowered s) modules ≡ y → (lowered s ≡ git) ⊎ (lowered s ≡ modules)
    go true p y q = inl (bytes_eq-true (lowered s) git p)
    go false p true q = inr (bytes_eq-true (lowered s) modules q)
    go false p false q = absurd (none mode (rw (p, q) at e))

pub hfs_covers : (s : List ℕ) (mode : Option Mode) (n : ℕ) → plain_rule s mode ≡ Some n → hfs_rule s mode ≡ plain_rule s mode
unfolding plain_rule hfs_rule
hfs_covers s mode n e =
    elim (refuses s mode n e) [
      | inl g ↦ rw (g, hfs_git_key s g)
      | inr m ↦ rw (m, hfs_modules_key s m)
    ]

pub ntfs_covers : (s : List ℕ) (mode : Option Mode) (n : ℕ) → plain_rule s mode ≡ Some n → ntfs_rule s mode ≡ plain_rule s mode
unfolding plain_rule ntfs_rule
ntfs_covers s mode n e =
    elim (refuses s mode n e) [
      | inl g ↦ rw (g, ntfs_git_key s g)
      | inr m ↦ rw (m, ntfs_modules_key s m)
    ]
