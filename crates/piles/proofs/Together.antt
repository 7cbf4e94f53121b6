-- What lies together in a pile: as a test of its layers and one of its bottom, and in words.
use Rattle.std.proofs.Common.{◌≡◌, ℕ, Bool, true, false, ◌||◌, ◌⊎◌, List, [], ◌∷◌, Decides, Any, refl, sym, ap, subst, ◌∙◌, bytes_eq}
use Rattle.std.specs.List.{list_any}
use Rattle.std.proofs.lemmas.Bool.Decides.{Decides-or}
use Rattle.std.proofs.lemmas.List.Folds.{Any-from_list_any, list_any-from_Any}
use Rattle.protections.proofs.Equal.{bytes_eq-decides}
use Rattle.filesystems.specs.Pairs.{Pairs, confused, Confused}
use Rattle.filesystems.specs.PairLemmas.{confused-decides}
use Rattle.piles.specs.declared.any_protection.AnyProtection.{AnyProtection}
use Rattle.piles.specs.AnyProtection.{key_of}
use Rattle.piles.specs.Piles.{together}

-- the first of three tests, with the second
regrouped : (p q r : Bool) → (p || (q || r)) ≡ ((p || q) || r)
regrouped true q r = refl
regrouped false q r = refl

module _ (a b : List ℕ) where
  abbrev pub equal_under : AnyProtection → Bool
  equal_under layer = bytes_eq (key_of layer a) (key_of layer b)

  abbrev pub EqualUnder : AnyProtection → Type 0
  EqualUnder layer = key_of layer a ≡ key_of layer b

  -- the layers are asked, and then the bottom
  pub together_any : (layers : List AnyProtection) (bottom : Pairs) → together layers bottom a b ≡ (list_any equal_under layers || confused bottom a b)
  together_any [] bottom = refl
  together_any (layer ∷ layers) bottom =
      ap (λ t. equal_under layer || t) (together_any layers bottom) ∙ regrouped (equal_under layer) (list_any equal_under layers) (confused bottom a b)

  some_decides : (layers : List AnyProtection) → Decides (list_any equal_under layers) (Any EqualUnder layers)
  some_decides layers = (
    λ e. let h = Any-from_list_any equal_under layers e in (h.0, h.1, h.2, h.3, (bytes_eq-decides (key_of h.1 a) (key_of h.1 b)).0 h.4),
    λ h. list_any-from_Any equal_under layers (h.0, h.1, h.2, h.3, (bytes_eq-decides (key_of h.1 a) (key_of h.1 b)).1 h.4),
  )

  pub together-decides : (layers : List AnyProtection) (bottom : Pairs) → Decides (together layers bottom a b) (Any EqualUnder layers ⊎ Confused bottom a b)
  together-decides layers bottom =
      subst (λ t. Decides t (Any EqualUnder layers ⊎ Confused bottom a b)) (sym (together_any layers bottom))
      (Decides-or (list_any equal_under layers) (confused bottom a b) (some_decides layers) (confused-decides bottom a b))
