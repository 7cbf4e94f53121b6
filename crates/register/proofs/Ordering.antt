-- Names in the order of their bytes: where a name stands among entries in that order, and entries with one put in or taken out.
use Rattle.std.proofs.Common.{◌≡◌, ℕ, zero, suc, ◌+◌, ◌-◌, ◌<◌, ◌≤◌, Bool, true, false, List, [], ◌∷◌, length, get_or, Some, inl, inr, refl, ◌∙◌, arith}
use Rattle.std.specs.List.{remove}
use Rattle.std.specs.List.Sorted.{IsPartitionedBy}
use Rattle.std.specs.Ordering.{is_lt, is_some_and, nat_cmp}
use Rattle.std.specs.Cmp.Lexicographic.{slice_cmp, slice_partial_cmp}
use Rattle.std.proofs.lemmas.Cmp.{is_lt_index, nat_list_cmp_total, same_from_slice_cmp, same_from_slice_cmp_tested}
use Rattle.std.proofs.lemmas.Bool.{cases_Bool, cases_lt}
use Rattle.std.proofs.lemmas.Bool.Decides.{nat_tests}
use Rattle.std.proofs.lemmas.List.Sorted.{ranks_by, searchable_from_sorted, sorted_far}
use Rattle.std.proofs.lemmas.List.Edits.{get_or-insert_above, get_or-insert_at, get_or-insert_below, get_or-remove_above, get_or-remove_below, length-insert, length-remove}
use Rattle.register_model.specs.Entries.{Entry, precedes, put, slot}
use Rattle.register.specs.Entries.{InOrder}

-- The library's comparison of byte strings decides as `precedes` does.
pub is_lt-slice_cmp : (x y : List ℕ) → is_lt (slice_cmp nat_cmp x y) ≡ precedes x y
unfolding precedes
is_lt-slice_cmp x y =
    same_from_slice_cmp nat_cmp is_lt precedes refl (λ _ _. refl) (λ _ _. refl) (λ a b xs ys o h. grind (arith, nat_tests)) x y _ refl

pub is_lt-slice_partial_cmp : (x y : List ℕ) (r : Bool) → r ≡ is_some_and is_lt (slice_partial_cmp (λ a b. Some (nat_cmp a b)) x y) → r ≡ precedes x y
unfolding precedes
is_lt-slice_partial_cmp x y r e =
    same_from_slice_cmp_tested nat_cmp is_lt precedes refl (λ _ _. refl) (λ _ _. refl) (λ a b xs ys o h. grind (arith, nat_tests)) x y r e

module _ {M : Type 0} where
  -- Where a later name precedes x, an earlier one does.
  pub precedes_splits : (es : List (Entry M)) (x : List ℕ) → InOrder es → IsPartitionedBy (λ e. precedes e.name x) es
  precedes_splits es x sorted i j d le in_range h =
      let e = get_or es i d in
      let f = get_or es j d in
      let rises = searchable_from_sorted nat_list_cmp_total (λ (e : Entry M). e.name) es x sorted i j d le in_range in
      grind (arith, nat_tests, rises, is_lt-slice_cmp e.name x, is_lt-slice_cmp f.name x, is_lt_index (slice_cmp nat_cmp e.name x), is_lt_index (slice_cmp nat_cmp f.name x))

  -- The names before a name's place precede it, and the one at the place does not.
  pub slot_before : (x : List ℕ) (es : List (Entry M)) (k : ℕ) (d : Entry M) → k < slot x es → precedes (get_or es k d).name x ≡ true
  unfolding slot
  slot_before x [] k d l = absurd (omega arith)
  slot_before x (e ∷ es) zero d l = elim (cases_Bool (precedes e.name x)) [
    | inl t ↦ t
    | inr f ↦ let none : 0 < 0 = rw f at l in absurd (omega arith)
  ]
  slot_before x (e ∷ es) (suc k) d l = elim (cases_Bool (precedes e.name x)) [
    | inl t ↦ slot_before x es k d (let m : suc k < suc (slot x es) = rw t at l in omega arith)
    | inr f ↦ let none : suc k < 0 = rw f at l in absurd (omega arith)
  ]

  pub slot_here : (x : List ℕ) (es : List (Entry M)) (d : Entry M) → slot x es < length es → precedes (get_or es (slot x es) d).name x ≡ false
  unfolding slot
  slot_here x [] d l = absurd (omega arith)
  slot_here x (e ∷ es) d l = elim (cases_Bool (precedes e.name x)) [
    | inl t ↦ rw t (slot_here x es d (let m : suc (slot x es) < suc (length es) = rw t at l in omega arith))
    | inr f ↦ rw f f
  ]

  -- A name's place is not past the end.
  pub slot_within : (x : List ℕ) (es : List (Entry M)) → slot x es ≤ length es
  unfolding slot
  slot_within x [] = omega arith
  slot_within x (e ∷ es) = elim (cases_Bool (precedes e.name x)) [
    | inl t ↦ rw t (let m = slot_within x es in omega arith)
    | inr f ↦ rw f (omega arith)
  ]

  module _ (es : List (Entry M)) (sorted : InOrder es) where
    -- With an entry put in at its name's place they stay in order.
    pub put_rises : (e : Entry M) → InOrder (put e es)
    put_rises e k d low high =
        let i = slot e.name es in
        let within = slot_within e.name es in
        let long = length-insert es i e within in
        elim (cases_lt k i) [
          | inl below ↦ elim (cases_lt (k + 1) i) [
            | inl both ↦ rw (get_or-insert_below es i e d (k + 1) both within, get_or-insert_below es i e d k below within) (sorted k d low (omega arith))
            | inr end ↦ let here : k + 1 ≡ i = omega arith in
                rw (here, get_or-insert_at es i e d within, get_or-insert_below es i e d k below within)
                (one_way (get_or es k d) e (is_lt-slice_cmp _ _ ∙ slot_before e.name es k d below))
          ]
          | inr above ↦ elim (cases_lt i k) [
            | inl past ↦ let back : k - 1 + 1 ≡ k = omega arith in
                rw (get_or-insert_above es i e d k above within, ← back, get_or-insert_above es i e d (k - 1) (omega arith) within)
                (sorted (k - 1) d (omega arith) (omega arith))
            | inr end ↦ let here : k ≡ i = omega arith in
                rw (get_or-insert_above es i e d k above within, here, get_or-insert_at es i e d within)
                (is_lt-slice_cmp _ _ ∙ slot_here e.name es d (omega arith))
          ]
        ]
      where
        one_way : (a b : Entry M) → is_lt (slice_cmp nat_cmp a.name b.name) ≡ true → is_lt (slice_cmp nat_cmp b.name a.name) ≡ false
        one_way = (ranks_by nat_list_cmp_total (λ (e : Entry M). e.name)).one_way

    -- With one taken out too.
    pub remove_rises : (i : ℕ) → i < length es → InOrder (remove es i)
    remove_rises i l k d low high =
        let long = length-remove es i l in
        elim (cases_lt (k + 1) i) [
          | inl both ↦ rw (get_or-remove_below es i d (k + 1) both l, get_or-remove_below es i d k (omega arith) l) (sorted k d low (omega arith))
          | inr end ↦ elim (cases_lt k i) [
            | inl below ↦ rw (get_or-remove_above es i d (k + 1) (omega arith) l, get_or-remove_below es i d k below l)
                (sorted_far _ (ranks_by nat_list_cmp_total (λ (e : Entry M). e.name)) es sorted k (k + 1 + 1) d (omega arith) (omega arith))
            | inr above ↦ rw (get_or-remove_above es i d (k + 1) (omega arith) l, get_or-remove_above es i d k above l) (sorted (k + 1) d (omega arith) (omega arith))
          ]
        ]
