-- The verdict of a pile is that of the first layer from the top that has one, else the bottom's.
use Rattle.std.proofs.Common.{◌≡◌, ℕ, ◌⊎◌, List, [], ◌∷◌, Some, None, Option, refl, sym, ap, inl, inr, IsNone}
use Rattle.std.specs.Option.{option_or}
use Rattle.std.proofs.lemmas.List.Elements.{All-cons, All-nil}
use Rattle.protections.specs.declared.rules.Mode.{Mode}
use Rattle.piles.specs.declared.any_protection.AnyProtection.{AnyProtection}
use Rattle.piles.specs.AnyProtection.{rule_of}
use Rattle.piles.specs.Piles.{judged, IsOfBottom, IsOfLayer}

module _ (s : List ℕ) (mode : Option Mode) where
  abbrev pub IsFirst : List AnyProtection → Option ℕ → Type 0
  IsFirst layers verdict = IsOfLayer layers s mode verdict ⊎ IsOfBottom layers s mode verdict

  -- a layer that passes the component, on top of the others
  below_passing : (layer : AnyProtection) (layers : List AnyProtection) (verdict : Option ℕ) → IsNone (rule_of layer s mode) → IsFirst layers verdict →
      IsFirst (layer ∷ layers) verdict
  below_passing layer layers verdict passed (inl of) = inl (record {
    above = layer ∷ of.above;
    layer = of.layer;
    below = of.below;
    order = ap (λ xs. layer ∷ xs) of.order;
    passed_above = All-cons (λ other. IsNone (rule_of other s mode)) layer of.above passed of.passed_above;
    refused = of.refused;
    by_layer = of.by_layer;
  })
  below_passing layer layers verdict passed (inr of) = inr (record {
    passed = All-cons (λ other. IsNone (rule_of other s mode)) layer layers passed of.passed;
    by_bottom = of.by_bottom;
  })

  -- a layer on top, by its own verdict
  on_top : (layer : AnyProtection) (layers : List AnyProtection) (own rest : Option ℕ) → rule_of layer s mode ≡ own → IsFirst layers rest →
      IsFirst (layer ∷ layers) (option_or own rest)
  on_top layer layers None rest e first = below_passing layer layers rest (rw e) first
  on_top layer layers (Some n) rest e first = inl (record {
    above = [];
    layer = layer;
    below = layers;
    order = refl;
    passed_above = All-nil (λ other. IsNone (rule_of other s mode));
    refused = refl;
    by_layer = sym e;
  })

  pub judged_first : (layers : List AnyProtection) → IsFirst layers (judged layers s mode)
  judged_first [] = inr (record { passed = All-nil (λ other. IsNone (rule_of other s mode)); by_bottom = refl })
  judged_first (layer ∷ layers) = on_top layer layers (rule_of layer s mode) (judged layers s mode) refl (judged_first layers)
