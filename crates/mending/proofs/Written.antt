-- What stands at the front of the buffer after mending.
use Rattle.std.proofs.Common.{◌≡◌, ℕ, Bool, true, false, cond, leb, List, ◌++◌, length, take, IfOk, Ok, Err, Result, sym, refl, ap, ◌∙◌, subst}
use Rattle.std.proofs.lemmas.List.{append_assoc, take_at}
use Rattle.mending.specs.Mender.{buffer_after, buffer_with, length_or_error, room}
use Rattle.mending.specs.declared.Error.{Error}
use Rattle.mending.specs.declared.Error.TheVariants.{BufferTooShort}

-- What holds of the text t made of s, and of its length, holds of the front of the buffer and of the answer.
module _ (t s before : List ℕ) (P : ℕ → List ℕ → Type 0) (h : P (length t) t) where
  at_room : (b : Bool) → IfOk (cond b (Ok (length t)) (Err BufferTooShort)) (λ n. P n (take n (cond b (buffer_with t (room s) before) before)))
  at_room true = subst (P (length t)) (sym (take_at t _ (length t) refl)) h
  at_room false = tt

  pub made_text : (r : Result ℕ Error) (after : List ℕ) → r ≡ length_or_error t s (length before)
      → after ≡ buffer_after t s before → IfOk r (λ n. P n (take n after))
  made_text r after e b = rw (e, b) (at_room (leb (room s) (length before)))

-- A text that stands at the front of a part of the buffer stands at the buffer's front.
pub made_front : (t rest part later : List ℕ) (n : ℕ) → n ≡ length t → part ≡ t ++ rest → take n (part ++ later) ≡ t
made_front t rest part later n h e =
    rw (h, e) (ap (take (length t)) (append_assoc t rest later) ∙ take_at t (rest ++ later) (length t) refl)
