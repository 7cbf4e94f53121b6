-- The first pair that is not declared.
use Rattle.std.proofs.Common.{◌≡◌, ℕ, ◌+◌, ◌<◌, List, ◌∷◌, ◌++◌, length, get_or, map, take, drop, Some, Bor, sym, ap, subst, ◌∙◌}
use Rattle.std.proofs.lemmas.List.{drop_more, map-append, take-append-drop}
use Rattle.filesystems.specs.declared.refusal.DeclareError.{DeclareError}
use Rattle.filesystems.specs.Pairs.{Pairs, WithinLimits}
use Rattle.filesystems.specs.Refusal.{declare_rule, number_of}
use Rattle.tool.specs.Setups.{FirstRefused, pair_of}

module _ (passed : List (Bor (List ℕ) × Bor (List ℕ))) (i : ℕ) (p : Bor (List ℕ) × Bor (List ℕ)) (l : i < length passed) (at : p ≡ get_or passed i p) where
  split : map pair_of passed ≡ map pair_of (take i passed) ++ pair_of p ∷ map pair_of (drop (i + 1) passed)
  split =
      ap (map pair_of) (sym (take-append-drop i passed) ∙ ap (λ r. take i passed ++ r) (drop_more passed i p l))
      ∙ map-append pair_of (take i passed) (get_or passed i p ∷ drop (i + 1) passed)
      ∙ ap (λ q. map pair_of (take i passed) ++ pair_of q ∷ map pair_of (drop (i + 1) passed)) (sym at)

  pub first_refused : (bottom : Pairs) (e : DeclareError) → bottom ≡ map pair_of (take i passed) → WithinLimits bottom
      → declare_rule bottom p.0.now p.1.now ≡ Some (number_of e) → FirstRefused (map pair_of passed) e
  first_refused bottom e b w r =
      (map pair_of (take i passed), p.0.now, p.1.now, map pair_of (drop (i + 1) passed), split, subst WithinLimits b w, subst (λ q. declare_rule q p.0.now p.1.now ≡ Some (number_of e)) b r)
