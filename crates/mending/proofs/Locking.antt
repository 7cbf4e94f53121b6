-- Where .lock may stand: only what follows the last slash decides.
use Rattle.std.proofs.Common.{◌≡◌, ℕ, false, List, [], ◌∷◌, ◌++◌, sym, ◌∙◌}
use Rattle.std.proofs.lemmas.List.{append-nil, append_assoc}
use Rattle.tag.specs.Bytes.{ends_in_lock}
use Rattle.tag.proofs.Locks.{lock_after_slash}
use Rattle.tag.proofs.Sound.{Unlocked}
use Rattle.mending.proofs.Replaced.{Slashless}

-- What stands before a slash does not matter.
after_slash : (p x : List ℕ) → ends_in_lock ((p ++ 47 ∷ []) ++ x) ≡ ends_in_lock x
after_slash p x = rw append_assoc (lock_after_slash p x)

-- Whatever comes next, .lock ends both p and q with it, or neither.
abbrev Alike : List ℕ → List ℕ → Type 0
Alike p q = (x : List ℕ) → ends_in_lock (p ++ x) ≡ ends_in_lock (q ++ x)

-- With nothing next, .lock ends q only where it ends p.
alike_now : (p q : List ℕ) → Alike p q → ends_in_lock p ≡ false → ends_in_lock q ≡ false
alike_now p q e h = sym (rw (append-nil p, append-nil q) at (e [])) ∙ h

-- One such front may stand for the other.
unlocked_alike : (p q s : List ℕ) → Alike p q → Unlocked p s → Unlocked q s
unlocked_alike p q [] e h = alike_now p q e h
unlocked_alike p q (b ∷ s) e h = (
  λ k. alike_now p q e (h.0 k),
  unlocked_alike (p ++ b ∷ []) (q ++ b ∷ []) s
      (λ x. rw (append_assoc p (b ∷ []) x, append_assoc q (b ∷ []) x) (e (b ∷ x))) h.1,
)

-- For what stands after a slash, it is as if nothing stood before it.
pub unlocked_after : (p s : List ℕ) → Unlocked [] s → Unlocked (p ++ 47 ∷ []) s
unlocked_after p s h = unlocked_alike [] (p ++ 47 ∷ []) s (λ x. sym (after_slash p x)) h

-- And conversely.
pub unlocked_before : (p s : List ℕ) → Unlocked (p ++ 47 ∷ []) s → Unlocked [] s
unlocked_before p s h = unlocked_alike (p ++ 47 ∷ []) [] s (after_slash p) h

-- Bytes that are no slash ask nothing of what stands before them.
pub unlocked_over : (p c s : List ℕ) → Slashless c → Unlocked (p ++ c) s → Unlocked p (c ++ s)
unlocked_over p [] s n h = rw append-nil at h
unlocked_over p (b ∷ c) s n h =
    (λ e. absurd (n.0 e), unlocked_over (p ++ b ∷ []) c s n.1 (rw append_assoc h))

-- Bytes that were read stand before the others.
pub unlocked_past : (p c s : List ℕ) → Unlocked p (c ++ s) → Unlocked (p ++ c) s
unlocked_past p [] s h = rw append-nil h
unlocked_past p (b ∷ c) s h = rw append_assoc at (unlocked_past (p ++ b ∷ []) c s h.1)
