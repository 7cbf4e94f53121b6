-- The place of a name among entries in the order of their names, from the entry that stands at its slot.
use Rattle.std.proofs.Common.{◌≡◌, ℕ, suc, ◌+◌, ◌<◌, ◌≤◌, Bool, true, false, List, [], ◌∷◌, length, get_or, Some, None, Option, inl, inr, sym, refl, ap, ◌∙◌, arith}
use Rattle.std.specs.Option.{option_map}
use Rattle.std.specs.List.{slice_get}
use Rattle.std.specs.Str.{bytes_eq}
use Rattle.std.specs.Bool.{then_some}
use Rattle.std.proofs.lemmas.Bool.{both_ways, cases_Bool}
use Rattle.std.proofs.lemmas.Bool.Decides.{nat_tests}
use Rattle.std.proofs.lemmas.Cmp.{nat_list_cmp_total}
use Rattle.std.proofs.lemmas.List.Sorted.{ranks_by, sorted_far}
use Rattle.std.proofs.lemmas.Option.{slice_get-get_or, slice_get_past}
use Rattle.std.proofs.lemmas.Slice.Eq.{bytes_eq-Decides}
use Rattle.register_model.specs.Entries.{Entry, precedes, first_place, place_of, slot}
use Rattle.register_model.proofs.Orders.{precedes_turned}
use Rattle.register.specs.Entries.{InOrder}
use Rattle.register.proofs.Ordering.{is_lt-slice_cmp}

-- A name does not come precedes itself.
precedes_itself : (x : List ℕ) → precedes x x ≡ false
unfolding precedes
precedes_itself [] = refl
precedes_itself (b ∷ x) = let more = precedes_itself x in grind (arith, nat_tests)

module _ {M : Type 0} (x : List ℕ) where
  -- The place i, if the entry that stands there has the name.
  abbrev pub if_named : Option (Entry M) → ℕ → Option ℕ
  if_named None i = None
  if_named (Some e) i = then_some (bytes_eq e.name x) i

  named_later : (o : Option (Entry M)) (i : ℕ) → option_map suc (if_named o i) ≡ if_named o (suc i)
  named_later None i = refl
  named_later (Some e) i = elim (cases_Bool (bytes_eq e.name x)) [ inl t ↦ rw t refl | inr f ↦ rw f refl ]

  -- Where no entry has the name, it has no place.
  none_placed : (es : List (Entry M)) → ((k : ℕ) (d : Entry M) → k < length es → bytes_eq (get_or es k d).name x ≡ false) → place_of x es ≡ None
  unfolding first_place
  none_placed [] h = refl
  none_placed (e ∷ es) h = rw (h 0 e (omega arith)) (ap (option_map suc) (none_placed es (λ k d l. h (suc k) d (omega arith))))

  -- After an entry whose name comes after x, none has the name.
  none_after : (e : Entry M) (es : List (Entry M)) → InOrder (e ∷ es) → precedes e.name x ≡ false → bytes_eq e.name x ≡ false
      → (k : ℕ) (d : Entry M) → k < length es → bytes_eq (get_or es k d).name x ≡ false
  none_after e es sorted f n k d l = elim (cases_Bool (bytes_eq (get_or es k d).name x)) [
    | inl t ↦
        let same = (bytes_eq-Decides (get_or es k d).name x).0 t in
        let first : precedes x e.name ≡ true = precedes_turned e.name x f (λ q. both_ways _ n ((bytes_eq-Decides e.name x).1 q)) in
        let far = sorted_far _ (ranks_by nat_list_cmp_total (λ (e : Entry M). e.name)) (e ∷ es) sorted 0 (suc k) d (omega arith) (omega arith) in
        absurd (both_ways _ far (is_lt-slice_cmp (get_or es k d).name e.name ∙ (ap (λ z. precedes z e.name) same ∙ first)))
    | inr g ↦ g
  ]

  -- A name that comes precedes x is another.
  other : (e : Entry M) → precedes e.name x ≡ true → bytes_eq e.name x ≡ false
  other e t = elim (cases_Bool (bytes_eq e.name x)) [
    | inl q ↦ absurd (both_ways _ (ap (λ z. precedes z x) ((bytes_eq-Decides e.name x).0 q) ∙ precedes_itself x) t)
    | inr n ↦ n
  ]

  rising_tail : (e : Entry M) (es : List (Entry M)) → InOrder (e ∷ es) → InOrder es
  rising_tail e es sorted k d low high =
      let next : suc k + 1 ≡ suc (k + 1) = omega arith in rw next at (sorted (suc k) d (omega arith) (omega arith))

  -- A name's place is its slot, if the entry that stands there has the name.
  pub place_by_slot : (es : List (Entry M)) → InOrder es → place_of x es ≡ if_named (slice_get es (slot x es)) (slot x es)
  unfolding first_place slot
  place_by_slot [] sorted = refl
  place_by_slot (e ∷ es) sorted = elim (cases_Bool (precedes e.name x)) [
    | inl t ↦ rw (t, other e t)
        (ap (option_map suc) (place_by_slot es (rising_tail e es sorted)) ∙ named_later (slice_get es (slot x es)) (slot x es))
    | inr f ↦ rw f (elim (cases_Bool (bytes_eq e.name x)) [
      | inl q ↦ rw q refl
      | inr n ↦ rw n (ap (option_map suc) (none_placed es (none_after e es sorted f n)))
    ])
  ]

  -- It has none where its slot is past the end, and else the slot where the entry there has the name.
  pub unplaced : (es : List (Entry M)) → InOrder es → length es ≤ slot x es → None ≡ place_of x es
  unplaced es sorted l = sym (place_by_slot es sorted ∙ ap (λ o. if_named o (slot x es)) (slice_get_past es (slot x es) l))

  pub placed : (es : List (Entry M)) → InOrder es → slot x es < length es → (e : Entry M) → e ≡ get_or es (slot x es) e
      → (b : Bool) → b ≡ bytes_eq e.name x → then_some b (slot x es) ≡ place_of x es
  placed es sorted l e at b t =
      ap (λ z. then_some z (slot x es)) t
      ∙ sym (place_by_slot es sorted ∙ ap (λ o. if_named o (slot x es)) (slice_get-get_or es (slot x es) e l ∙ ap Some (sym at)))
