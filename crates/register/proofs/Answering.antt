-- What each call answers, check by check, and which entries it leaves.
use Rattle.std.proofs.Common.{◌≡◌, ℕ, ◌<◌, ◌≤◌, List, length, Some, None, Ok, Err, Option, refl, sym, ap, ◌∙◌}
use Rattle.std.proofs.lemmas.Bool.{le-leb, lt-leb}
use Rattle.std.specs.Option.{ok_or}
use Rattle.protections.specs.declared.rules.Mode.{Mode}
use Rattle.register_model.specs.Entries.{new_entry, place_of, put, slot, strike}
use Rattle.register_model.specs.Calls.{Call, Fault, Kept, Meaning, Outcome, State, after_by, answer, changed, entering, state_after, first_meeting, name_fault, number_at, offering, removing, renaming}
use Rattle.register_model.specs.Calls.Call.{enter, offer}
use Rattle.register_model.specs.Calls.Fault.{by_state}
use Rattle.register_model.specs.Calls.Outcome.{accepted, declined}
use Rattle.register_model.specs.declared.TheConstants.{CAPACITY, LONGEST_NAME}
use Rattle.std.specs.List.{remove}
use Rattle.register.specs.Entries.{renamed}
use Rattle.register.proofs.Striking.{Stands}

module _ (m : Meaning) (s : State) where
  -- A refused call leaves the state.
  pub refused_leaves : (c : Call) (f : Fault) → declined f ≡ answer m s c → s ≡ state_after m s c
  refused_leaves c f e = ap (λ o. after_by o s (changed m s c)) e

  -- An accepted call changes it.
  pub accepted_leaves : (c : Call) (p : ℕ) → accepted p ≡ answer m s c → changed m s c ≡ state_after m s c
  accepted_leaves c p e = ap (λ o. after_by o s (changed m s c)) e

module _ (m : Meaning) (es : Kept) where
  module _ (x : List ℕ) (mode : Option Mode) where
    -- Enter: the name has a fault.
    pub enter_faulty : (f : Fault) → Some f ≡ name_fault m x mode → declined f ≡ entering m es x mode
    unfolding entering
    enter_faulty f e = rw (← e)

    module _ (fine : None ≡ name_fault m x mode) where
      -- A kept name meets it.
      pub enter_met : (p : ℕ) → Some p ≡ first_meeting m.together None x es → declined (by_state 41 p) ≡ entering m es x mode
      unfolding entering
      enter_met p e = rw (← fine, ← e)

      module _ (unmet : None ≡ first_meeting m.together None x es) where
        -- There is no room.
        pub enter_full : CAPACITY ≤ length es → declined (by_state 42 0) ≡ entering m es x mode
        unfolding entering
        enter_full l = rw (← fine, ← unmet, le-leb CAPACITY (length es) l)

        -- It is put in.
        pub enter_accepted : length es < CAPACITY → accepted (slot x es) ≡ entering m es x mode
        unfolding entering
        enter_accepted l = rw (← fine, ← unmet, lt-leb CAPACITY (length es) l)

  -- Remove: the name is not kept.
  pub remove_unkept : (x : List ℕ) → None ≡ place_of x es → declined (by_state 43 0) ≡ removing es x
  unfolding removing
  remove_unkept x e = rw (← e)

  -- It is taken out.
  pub remove_accepted : (x : List ℕ) (p : ℕ) → Some p ≡ place_of x es → accepted p ≡ removing es x
  unfolding removing
  remove_accepted x p e = rw (← e)

  module _ (old new : List ℕ) (mode : Option Mode) where
    -- Rename: the new name has a fault.
    pub rename_faulty : (f : Fault) → Some f ≡ name_fault m new mode → declined f ≡ renaming m es old new mode
    unfolding renaming
    rename_faulty f e = rw (← e)

    module _ (fine : None ≡ name_fault m new mode) where
      -- The old name is not kept.
      pub rename_unkept : None ≡ place_of old es → declined (by_state 43 0) ≡ renaming m es old new mode
      unfolding renaming
      rename_unkept e = rw (← fine, ← e)

      module _ (from : ℕ) (at_from : Some from ≡ place_of old es) where
        -- Another kept name meets the new one.
        pub rename_met : (p : ℕ) → Some p ≡ first_meeting m.together (Some old) new es
            → declined (by_state 41 p) ≡ renaming m es old new mode
        unfolding renaming
        rename_met p e = rw (← fine, ← at_from, ← e)

        -- It is renamed.
        pub rename_accepted : None ≡ first_meeting m.together (Some old) new es → Stands old es from
            → accepted (slot new (remove es from)) ≡ renaming m es old new mode
        unfolding renaming
        rename_accepted e s = rw (← fine, ← at_from, ← e) (ap (λ z. accepted (slot new z)) (sym s.struck))

  -- The entry that is put in when a name is renamed.
  pub renamed_entry : (old new : List ℕ) (mode : Option Mode) (from : ℕ) → Stands old es from
      → put (renamed es from new mode) (remove es from) ≡ put (new_entry new (number_at old es) mode) (strike old es)
  renamed_entry old new mode from s =
      ap (λ n. put (new_entry new n mode) (remove es from)) (sym s.numbered)
      ∙ ap (put (new_entry new (number_at old es) mode)) (sym s.struck)

  -- Offer: the text is too long.
  pub offer_long : (text : List ℕ) → LONGEST_NAME < length text → declined (by_state 32 0) ≡ offering m es text
  unfolding offering
  offer_long text l = rw (lt-leb (length text) LONGEST_NAME l)

  -- Its mended text is entered.
  pub offer_enters : (text : List ℕ) → length text ≤ LONGEST_NAME → entering m es (m.mended text) None ≡ offering m es text
  unfolding offering
  offer_enters text l = rw (le-leb (length text) LONGEST_NAME l)

-- An offer, from the enter of its mended text x.
module _ (m : Meaning) (s : State) (text x : List ℕ) (e : x ≡ m.mended text) (l : length text ≤ LONGEST_NAME) where
  pub offer_answer : (o : Outcome) → o ≡ entering m s.kept x None → o ≡ offering m s.kept text
  offer_answer o a = a ∙ (ap (λ z. entering m s.kept z None) e ∙ offer_enters m s.kept text l)

  pub offer_leaves : (k : ℕ) (after : State) → after ≡ state_after m s (enter x k None) → after ≡ state_after m s (offer text k)
  offer_leaves k after a =
      a ∙ (ap (λ z. after_by (entering m s.kept z None) s (record { kept = put (new_entry z k None) s.kept })) e
      ∙ ap (λ o. after_by o s (record { kept = put (new_entry (m.mended text) k None) s.kept })) (offer_enters m s.kept text l))

-- A place that is asked for, or else a refusal.
pub place_kept : {E : Type 0} (o : Option ℕ) (e : E) (p : ℕ) → ok_or o e ≡ Ok p → Some p ≡ o
place_kept None e p h = cc
place_kept (Some q) e p h = cc

pub place_refused : {E : Type 0} (o : Option ℕ) (e f : E) → ok_or o e ≡ Err f → (None ≡ o) × (f ≡ e)
place_refused None e f h = (refl, cc)
place_refused (Some q) e f h = cc
