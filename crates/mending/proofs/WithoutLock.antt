-- Taking .lock off the end of a component.
use Rattle.std.proofs.Common.{◌≡◌, ℕ, zero, suc, ◌+◌, ◌-◌, ◌<◌, ◌≤◌, true, false, cond, List, length, take, drop, sym, refl, ap, ◌∙◌, ⊎_elim, arith, length-drop}
use Rattle.std.proofs.lemmas.List.{drop-take, length-take, length-take-le, take-take}
use Rattle.std.proofs.lemmas.Bool.{cases_Bool, cond-true, cond-false}
use Rattle.std.proofs.lemmas.Bool.Decides.{nat_tests}
use Rattle.tag.specs.Bytes.{ends_in_lock}
use Rattle.mending.specs.Mender.{without_lock_up_to, without_lock}

-- What ends in .lock has at least five bytes.
pub lock_length : (c : List ℕ) → ends_in_lock c ≡ true → 5 ≤ length c
lock_length c h = grind (arith, nat_tests)

-- What does not end in .lock is left as it is.
pub without_lock_same : (n : ℕ) (c : List ℕ) → ends_in_lock c ≡ false → without_lock_up_to n c ≡ c
unfolding without_lock_up_to
without_lock_same zero c e = refl
without_lock_same (suc n) c e = cond-false (ends_in_lock c) (without_lock_up_to n (take (length c - 5) c)) c e

-- Taking it off more often than there are bytes changes nothing.
pub without_lock_enough : (m n : ℕ) (c : List ℕ) → length c ≤ m → length c ≤ n → without_lock_up_to m c ≡ without_lock_up_to n c
unfolding without_lock_up_to
without_lock_enough zero zero c p q = refl
without_lock_enough zero (suc n) c p q = ⊎_elim (λ t. absurd (omega (arith, lock_length c t))) (λ t. rw t) (cases_Bool (ends_in_lock c))
without_lock_enough (suc m) zero c p q = ⊎_elim (λ t. absurd (omega (arith, lock_length c t))) (λ t. rw t) (cases_Bool (ends_in_lock c))
without_lock_enough (suc m) (suc n) c p q =
    ⊎_elim
    (λ t. let five = lock_length c t in
    let short : length (take (length c - 5) c) < length c = simp length-take (omega arith) in
    ap (λ d. cond (ends_in_lock c) d c) (without_lock_enough m n (take (length c - 5) c) (omega arith) (omega arith)))
    (λ t. rw t) (cases_Bool (ends_in_lock c))

module _ (c : List ℕ) where
  again : without_lock c ≡ cond (ends_in_lock c) (without_lock_up_to (length c) (take (length c - 5) c)) c
  unfolding without_lock without_lock_up_to
  again = without_lock_enough (length c) (suc (length c)) c (omega arith) (omega arith)

  -- It is taken off once.
  pub without_lock_step : ends_in_lock c ≡ true → without_lock c ≡ without_lock (take (length c - 5) c)
  unfolding without_lock
  without_lock_step t =
      again ∙ cond-true _ _ _ t
      ∙ without_lock_enough (length c) _ (take (length c - 5) c) (simp length-take (omega arith)) (omega arith)

  -- It is not there.
  pub without_lock_done : ends_in_lock c ≡ false → without_lock c ≡ c
  unfolding without_lock
  without_lock_done t = without_lock_same (length c) c t

-- It is taken off once at the end of a text, where it stands behind `start`.
pub without_lock_text : (out : List ℕ) (start end : ℕ) → end ≤ length out → ends_in_lock (drop start (take end out)) ≡ true
    → (start + 5 ≤ end)
    × (take start (take (end - 5) out) ≡ take start (take end out))
    × (without_lock (drop start (take (end - 5) out)) ≡ without_lock (drop start (take end out)))
without_lock_text out start end h t =
    let five = lock_length (drop start (take end out)) t in
    let n : length (drop start (take end out)) ≡ end - start = simp (length-drop, length-take-le) refl in
    let long : start + 5 ≤ end = omega arith in
    let back : end - 5 ≡ start + (end - start - 5) = omega arith in
    let shorter : drop start (take (end - 5) out) ≡ take (end - start - 5) (drop start (take end out)) =
    ap (drop start) (sym (take-take (end - 5) end out (omega arith)))
    ∙ (ap (λ m. drop start (take m (take end out))) back ∙ drop-take start (end - start - 5) (take end out)) in (
      long,
      take-take start (end - 5) out (omega arith) ∙ sym (take-take start end out (omega arith)),
      ap without_lock shorter ∙ (ap (λ m. without_lock (take (m - 5) (drop start (take end out)))) (sym n) ∙ sym (without_lock_step (drop start (take end out)) t)),
    )
