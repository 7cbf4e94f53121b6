-- Calls that were all made: as many answers as calls.
use Rattle.std.proofs.Common.{◌≡◌, ℕ, min, List, map, length, take, sym, ap, ◌∙◌, arith}
use Rattle.std.proofs.lemmas.List.{take_all}
use Rattle.register_model.specs.Calls.{Call, Meaning, Outcome, State}
use Rattle.register_model.specs.Claim.{Claim, OffersClaim, OffersExact}
use Rattle.register_model.specs.Histories.{answers, history, state_left}

module _ {C A : Type 0} (call : C → Call) (outcome : A → Outcome) (m : Meaning) (first : State)
    (cs : List C) (os : List A) (after : State) (k n : ℕ) (calls : List Call)
    (count : k ≡ min (length cs) n) (room : n ≡ length cs) (same : length os ≡ n)
    (answered : map outcome (take k os) ≡ answers m first (map call (take k cs)))
    (left : after ≡ state_left m first (map call (take k cs)))
    (read : map call cs ≡ calls) where
  all_made : map call (take k cs) ≡ calls
  all_made = ap (map call) (take_all k cs (omega arith)) ∙ read

  given : map outcome (take k os) ≡ answers m first calls
  given = answered ∙ ap (answers m first) all_made

  -- Each call has its answer.
  pub all_answered : map outcome os ≡ answers m first calls
  all_answered = ap (map outcome) (sym (take_all k os (omega arith))) ∙ given

  -- This state is left.
  pub all_left : after ≡ state_left m first calls
  all_left = left ∙ ap (state_left m first) all_made

  all_history : history (map call (take k cs)) (map outcome (take k os)) ≡ history calls (answers m first calls)
  all_history = ap (λ t. history t (map outcome (take k os))) all_made ∙ ap (history calls) given

  -- The claims are those of all the calls.
  pub all_claimed : Claim m (history (map call (take k cs)) (map outcome (take k os))) after
      → Claim m (history calls (answers m first calls)) after
  all_claimed c = rw all_history at c

  pub all_offered : OffersClaim m (history (map call (take k cs)) (map outcome (take k os))) → OffersClaim m (history calls (answers m first calls))
  all_offered c = rw all_history at c

  pub all_exact : OffersExact m (history (map call (take k cs)) (map outcome (take k os))) → OffersExact m (history calls (answers m first calls))
  all_exact c = rw all_history at c
