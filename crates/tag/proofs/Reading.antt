-- Reading a name from the left, at an index.
use Rattle.std.proofs.Common.{◌≡◌, ℕ, ◌+◌, ◌<◌, Bool, true, false, cond, ◌&&◌, eqb, List, [], ◌∷◌, ◌++◌, length, get_or, take, drop, sym, refl, ap, ◌∙◌, subst, ⊎_elim, arith}
use Rattle.std.proofs.lemmas.List.{drop_more, take_more, get_or_push, length_push}
use Rattle.std.proofs.lemmas.Bool.Decides.{nat_tests}
use Rattle.std.proofs.lemmas.Bool.{and_left, and_right, cases_eq, ne_eqb}
use Rattle.tag.specs.Answers.{Answer, Value, first_refusal}
use Rattle.tag.specs.Answers.Answer.{allowed, refused}
use Rattle.tag.specs.Answers.Value.{nothing}
use Rattle.tag.specs.Bytes.{last_byte, ends_in_lock}
use Rattle.tag.specs.Errors.{refusal}
use Rattle.tag.specs.Names.{fault_after, fault, reads}
use Rattle.tag.specs.declared.Error.{Error}
use Rattle.tag.specs.Scanning.{after, ordinary}
use Rattle.tag.specs.declared.scanner.Scanner.TheVariants.{AfterOther, AfterSlash}
use Rattle.tag.proofs.Firsts.{first_refuses}

-- The byte that was added last is the last byte.
pub last_byte_push : (s : List ℕ) (b : ℕ) → last_byte (s ++ b ∷ []) ≡ b
last_byte_push s b = get_or_push s b 0 _ (simp length_push (omega arith))

pub last_byte_more : (s : List ℕ) (i : ℕ) → i < length s → last_byte (take (i + 1) s) ≡ get_or s i 0
last_byte_more s i h = ap last_byte (take_more s i 0 h) ∙ last_byte_push (take i s) (get_or s i 0)

-- An ordinary byte has no fault after any byte, is no slash, and leaves the state AfterOther.
pub ordinary_passes : (b : ℕ) → ordinary b ≡ true → (a : ℕ) → allowed ≡ fault_after a b
ordinary_passes b h a = grind (arith, nat_tests)

pub ordinary_no_slash : (b : ℕ) → ordinary b ≡ true → b ≡ 47 → ⊥
ordinary_no_slash b h e = grind (arith, nat_tests)

pub ordinary_after : (b : ℕ) → ordinary b ≡ true → after b ≡ AfterOther
ordinary_after b h = grind (arith, nat_tests)

-- The state is AfterSlash behind a slash, and only there.
pub after_slash : (b : ℕ) → b ≡ 47 → after b ≡ AfterSlash
after_slash b e = rw e refl

pub slash_after : (b : ℕ) → after b ≡ AfterSlash → b ≡ 47
slash_after b h = grind (arith, nat_tests)

-- One byte on.
pub reads_step :
    (s : List ℕ) (i : ℕ)
    → i < length s
    → reads (take i s) (drop i s) ≡ first_refusal (fault (take i s) (get_or s i 0)) (reads (take (i + 1) s) (drop (i + 1) s))
unfolding reads
reads_step s i h = rw (take_more s i 0 h, drop_more s i 0 h)

-- The byte at i and the byte before it have a fault.
pub reads_fault :
    (s : List ℕ) (i : ℕ) (e : Error)
    → i < length s
    → refusal e ≡ fault_after (last_byte (take i s)) (get_or s i 0)
    → refusal e ≡ reads (take i s) (drop i s)
reads_fault s i e h p =
    first_refuses (fault (take i s) (get_or s i 0)) _ e (first_refuses (fault_after (last_byte (take i s)) (get_or s i 0)) _ e p)
    ∙ sym (reads_step s i h)

-- A slash closes a component that ends in .lock, or it does not.
lock_decides : (b : ℕ) (e : Bool) (x : Answer Value) → allowed ≡ x → b ≡ 47 → e ≡ true
    → first_refusal x (cond (eqb b 47 && e) (refused 5 nothing) allowed) ≡ refused 5 nothing
lock_decides b e x p q t =
    subst (λ (w : Answer Value). first_refusal w (cond (eqb b 47 && e) (refused 5 nothing) allowed) ≡ refused 5 nothing) p
    (rw (q, t))

lock_passes : (b : ℕ) (e : Bool) (x : Answer Value) → allowed ≡ x → (b ≡ 47 → e ≡ false)
    → first_refusal x (cond (eqb b 47 && e) (refused 5 nothing) allowed) ≡ allowed
lock_passes b e x p q =
    subst (λ (w : Answer Value). first_refusal w (cond (eqb b 47 && e) (refused 5 nothing) allowed) ≡ allowed) p
    (⊎_elim (λ h. rw (and_right (eqb b 47) e (q h))) (λ h. rw (and_left (eqb b 47) e (ne_eqb b 47 h))) (cases_eq b 47))

module _ (s : List ℕ) (i : ℕ) (h : i < length s) (p : allowed ≡ fault_after (last_byte (take i s)) (get_or s i 0)) where
  -- The byte at i is a slash after .lock
  pub reads_lock : get_or s i 0 ≡ 47 → ends_in_lock (take i s) ≡ true → refused 5 nothing ≡ reads (take i s) (drop i s)
  reads_lock q t =
      sym (reads_step s i h ∙ ap (λ w. first_refusal w (reads (take (i + 1) s) (drop (i + 1) s)))
      (lock_decides (get_or s i 0) (ends_in_lock (take i s)) (fault_after (last_byte (take i s)) (get_or s i 0)) p q t))

  -- The byte at i has no fault.
  pub reads_on : (get_or s i 0 ≡ 47 → ends_in_lock (take i s) ≡ false)
      → reads (take (i + 1) s) (drop (i + 1) s) ≡ reads (take i s) (drop i s)
  reads_on q =
      sym (reads_step s i h ∙ ap (λ w. first_refusal w (reads (take (i + 1) s) (drop (i + 1) s)))
      (lock_passes (get_or s i 0) (ends_in_lock (take i s)) (fault_after (last_byte (take i s)) (get_or s i 0)) p q))
