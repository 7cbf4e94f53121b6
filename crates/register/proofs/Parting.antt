-- Whether a row's name is left out, and whether it meets a new one, from what is left of the components of both.
use Rattle.std.proofs.Common.{◌≡◌, Bool, ℕ, true, false, not, ◌&&◌, nat_eq, ◌⊎◌, List, [], ◌∷◌, Some, None, Option, inl, inr, sym, refl, ap, ◌∙◌}
use lib.Pointwise.{pointwise}
use denote.Ref.{Bor}
use Rattle.std.specs.Str.{bytes_eq}
use Rattle.std.proofs.lemmas.Bool.{both_ways, not-false, not-true}
use Rattle.std.specs.Option.{option_eq, option_map}
use Rattle.std.proofs.lemmas.Bool.Decides.{Decides-eqb, same_from_decides}
use Rattle.std.proofs.lemmas.Slice.Eq.{bytes_eq-Decides, slice_eq-Decides}
use Rattle.std.specs.Iterator.Adapters.{zip_first, zip_second}
use Rattle.std.specs.declared.iter.Zip.{Zip}
use Rattle.tag.specs.Components.{components}
use Rattle.tag.specs.ComponentsLeft.{components_left}
use Rattle.tag.specs.declared.components.Components.{Components}
use Rattle.meetings.specs.Meeting.{meet, meet_parts}
use Rattle.meetings.proofs.Meetings.{meet_none, not_same}
use Rattle.register_model.specs.Calls.{left_aside}

-- The test of a row, from whether its name is left out and whether it meets the new one.
pub passes : (together : List ℕ → List ℕ → Bool) (aside : Option (List ℕ)) (old x new : List ℕ) (out met : Bool)
    → old ≡ x → out ≡ left_aside aside old → meet together old new ≡ met
    → (not (left_aside aside x) && meet together x new) ≡ (not out && met)
passes together aside old x new out met e o m =
    ap (λ z. not (left_aside aside z) && meet together z new) (sym e)
    ∙ (ap (λ z. not z && meet together old new) (sym o) ∙ ap (λ z. not out && z) m)

-- The comparison with the name that is left out, if any is.
pub out_is : (aside : Option (Bor (List ℕ))) (old : Bor (List ℕ)) (r : Bool)
    → r ≡ option_eq (λ x y. pointwise nat_eq x.now y.now) aside (Some old) → r ≡ left_aside (option_map (λ x. x.now) aside) old.now
out_is None old r e = e
out_is (Some x) old r e =
    let d = slice_eq-Decides Decides-eqb x.now old.now r e in
    same_from_decides r (bytes_eq old.now x.now) (λ t. sym (d.0 t), λ q. d.1 (sym q)) (bytes_eq-Decides old.now x.now)

module _ (together : List ℕ → List ℕ → Bool) where
  -- Two names from their components, as two iterators side by side give them.
  pub side_by_side : (a b : List ℕ) {it zipped : Zip Components Components} {p q : Components} → it ≡ zipped → zip_first zipped ≡ p
      → zip_second zipped ≡ q → components_left p ≡ components a → components_left q ≡ components b
      → meet_parts together (components_left (zip_first it)) (components_left (zip_second it)) ≡ meet together a b
  unfolding meet
  side_by_side a b i f s e h = rw (i, f, s, e, h)

  module _ (x y : List ℕ) (ps qs ps' qs' : List (List ℕ)) (e : ps ≡ x ∷ ps') (f : qs ≡ y ∷ qs') where
    -- The first components differ.
    pub differ : true ≡ not (pointwise nat_eq x y) → together x y ≡ meet_parts together ps qs
    unfolding meet_parts
    differ n = rw (e, f, not_same x y (λ q. both_ways _ (not-true _ (sym n)) ((slice_eq-Decides Decides-eqb x y _ refl).1 q)))

    -- They are the same.
    pub go_on : false ≡ not (pointwise nat_eq x y) → meet_parts together ps' qs' ≡ meet_parts together ps qs
    unfolding meet_parts
    go_on n = rw (e, f, (bytes_eq-Decides x y).1 ((slice_eq-Decides Decides-eqb x y _ refl).0 (not-false _ (sym n))))

  -- Where one of the names has no component left, they meet.
  pub ends : (ps qs : List (List ℕ)) → (ps ≡ []) ⊎ (qs ≡ []) → meet_parts together ps qs ≡ true
  unfolding meet_parts
  ends ps qs (inl e) = rw e
  ends ps qs (inr e) = rw e (meet_none together ps)
