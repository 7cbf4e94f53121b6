-- Replacing the bytes of a component one by one.
use Rattle.std.proofs.Common.{◌≡◌, ℕ, ◌+◌, ◌<◌, List, [], ◌∷◌, ◌++◌, length, get_or, take, sym, refl, ap, ◌∙◌}
use Rattle.std.proofs.lemmas.List.{append-nil, append_assoc, take_more}
use Rattle.mending.specs.Mender.{replacement, replaced}
use Rattle.mending.proofs.Following.{last_or}

-- The byte that was added last is the last.
pub last_or_push : (a : ℕ) (s : List ℕ) (b : ℕ) → last_or a (s ++ b ∷ []) ≡ b
last_or_push a [] b = refl
last_or_push a (x ∷ s) b = last_or_push x s b

-- One byte more.
pub replaced_push : (a : ℕ) (s : List ℕ) (b : ℕ) → replaced a (s ++ b ∷ []) ≡ replaced a s ++ replacement (last_or a s) b
unfolding replaced
replaced_push a [] b = append-nil (replacement a b)
replaced_push a (x ∷ s) b = ap (λ t. replacement a x ++ t) (replaced_push x s b) ∙ sym (append_assoc (replacement a x) (replaced x s) (replacement (last_or x s) b))

module _ (s : List ℕ) (i : ℕ) (h : i < length s) where
  pub last_or_more : last_or 47 (take (i + 1) s) ≡ get_or s i 0
  last_or_more = ap (last_or 47) (take_more s i 0 h) ∙ last_or_push 47 (take i s) (get_or s i 0)

  pub replaced_more : replaced 47 (take (i + 1) s) ≡ replaced 47 (take i s) ++ replacement (last_or 47 (take i s)) (get_or s i 0)
  replaced_more = ap (replaced 47) (take_more s i 0 h) ∙ replaced_push 47 (take i s) (get_or s i 0)

  -- The text after one byte more: what stands for it is added behind the rest.
  pub replaces_on : (text m : List ℕ) → text ≡ replaced 47 (take i s) → m ≡ replacement (last_or 47 (take i s)) (get_or s i 0)
      → text ++ m ≡ replaced 47 (take (i + 1) s)
  replaces_on text m w p = ap (λ t. t ++ m) w ∙ (ap (λ t. replaced 47 (take i s) ++ t) p ∙ sym replaced_more)
