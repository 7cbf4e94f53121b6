-- What any call leaves of the entries and the tally, from the reason for its answer.
use Rattle.std.proofs.Common.{◌≡◌, ℕ, zero, suc, Bool, true, false, List, [], ◌∷◌, Some, None, Option, sym, inl, inr, ⊎_elim}
use Rattle.std.specs.List.{AllByRecursion, slice_get}
use Rattle.std.proofs.lemmas.Bool.{cases_Bool}
use Rattle.tag.proofs.Members.{Among}
use Rattle.tag.proofs.Members.{all_from_each, contains_among}
use Rattle.protections.specs.declared.rules.Mode.{Mode}
use Rattle.meetings.specs.Meeting.{meet}
use Rattle.meetings.proofs.Meetings.{meet_decides}
use Rattle.register_model.specs.Entries.{Entry, strike}
use Rattle.register_model.specs.Calls.{Call, Kept, Meaning, Outcome, State, after_by, answer, changed}
use Rattle.register_model.specs.Calls.Call.{enter, offer, remove, rename}
use Rattle.register_model.specs.Claim.{fed, was_accepted}
use Rattle.register_model.specs.Reasons.{Because, Enters, IsNamed, NoneMeets, Offers, Removes, Renames}
use Rattle.register_model.proofs.Becauses.{because}
use Rattle.register_model.proofs.Tallies.{Sound, others, same_number, sound_put, sound_strike, struck_room}

-- The entry at a place is one of the entries.
get_among : (es : Kept) (p : ℕ) (e : Entry (Option Mode)) → slice_get es p ≡ Some e → Among e es
get_among [] p e h = cc
get_among (d ∷ es) zero e h = let same : d ≡ e = cc in inl (sym same)
get_among (d ∷ es) (suc p) e h = inr (get_among es p e h)

-- A name that stands at a place is that of one of the entries.
pub named_among : (x : List ℕ) (es : Kept) → IsNamed x es → (d : Entry (Option Mode)) × Among d es × (d.name ≡ x)
named_among x es n = (n.1.0, get_among es n.0 n.1.0 n.1.1, n.1.2)

-- Where none meets x, the test of no entry is true.
pub none_tested : (together : List ℕ → List ℕ → Bool) (x : List ℕ) (es : Kept) → NoneMeets together None x es
    → AllByRecursion (λ d. meet together d.name x ≡ false) es
none_tested together x es none =
    all_from_each _ es
    (λ d k.
    ⊎_elim
    (λ t. absurd (none d (contains_among es d k) ((meet_decides together d.name x).0 t, λ e. cc)))
    (λ f. f)
    (cases_Bool (meet together d.name x)))

module _ (m : Meaning)
    (symmetric : (a b : List ℕ) → m.together a b ≡ true → m.together b a ≡ true)
    (s t : State) (sound : Sound m s.kept t.kept) where
  -- An enter keeps the entries sound with the tally.
  enter_step : (x : List ℕ) (n : ℕ) (mode : Option Mode) {o : Outcome} → Enters m s.kept x mode o
      → Sound m (after_by o s (changed m s (enter x n mode))).kept (fed m t (enter x n mode) (was_accepted o)).kept
  enter_step x n mode (Enters.unfit u) = sound
  enter_step x n mode (Enters.met fit first) = sound
  enter_step x n mode (Enters.full fit none full) = sound
  enter_step x n mode (Enters.entered fit none room) =
      sound_put m s.kept t.kept sound symmetric _ fit room (none_tested m.together x s.kept none)

  -- An offer.
  offer_step : (text : List ℕ) (n : ℕ) {o : Outcome} → Offers m s.kept text o
      → Sound m (after_by o s (changed m s (offer text n))).kept (fed m t (offer text n) (was_accepted o)).kept
  offer_step text n (Offers.too_long l) = sound
  offer_step text n (Offers.mended l why) = enter_step (m.mended text) n None why

  -- Where none but the old name meets the new one, none of the others does.
  others_tested : (old new : List ℕ) (d : Entry (Option Mode)) → Among d s.kept → d.name ≡ old
      → NoneMeets m.together (Some old) new s.kept
      → AllByRecursion (λ e. meet m.together e.name new ≡ false) (strike old s.kept)
  others_tested old new d k named none =
      all_from_each _ (strike old s.kept)
      (λ c i.
      let o = others m s.kept t.kept sound old d k named c i in
      ⊎_elim
      (λ q. absurd (none c (contains_among s.kept c o.0) ((meet_decides m.together c.name new).0 q, λ e. let same : old ≡ c.name = cc in o.1 (sym same))))
      (λ f. f)
      (cases_Bool (meet m.together c.name new)))

  -- A rename.
  rename_step : (old new : List ℕ) (mode : Option Mode) {o : Outcome} → Renames m s.kept old new mode o
      → Sound m (after_by o s (changed m s (rename old new mode))).kept (fed m t (rename old new mode) (was_accepted o)).kept
  rename_step old new mode (Renames.unfit u) = sound
  rename_step old new mode (Renames.not_kept fit none) = sound
  rename_step old new mode (Renames.met fit at first) = sound
  rename_step old new mode (Renames.renamed fit at none) =
      let k = named_among old s.kept at in
      let struck = sound_strike m s.kept t.kept sound old k.0 k.1 k.2 in
      rw (same_number m s.kept t.kept sound old k.0 k.1 k.2)
      (sound_put m (strike old s.kept) (strike old t.kept) struck symmetric _ fit
      (struck_room m s.kept t.kept sound old k.0 k.1 k.2)
      (others_tested old new k.0 k.1 k.2 none))

  -- A remove.
  remove_step : (x : List ℕ) {o : Outcome} → Removes s.kept x o
      → Sound m (after_by o s (changed m s (remove x))).kept (fed m t (remove x) (was_accepted o)).kept
  remove_step x (Removes.not_kept none) = sound
  remove_step x (Removes.removed {p} at) =
      let k = named_among x s.kept (p, at) in sound_strike m s.kept t.kept sound x k.0 k.1 k.2

  -- Every call, whatever its answer is.
  step_by : (c : Call) (o : Outcome) → Because m s c o
      → Sound m (after_by o s (changed m s c)).kept (fed m t c (was_accepted o)).kept
  step_by (enter x n mode) o why = enter_step x n mode why
  step_by (offer text n) o why = offer_step text n why
  step_by (rename old new mode) o why = rename_step old new mode why
  step_by (remove x) o why = remove_step x why

  pub step : (c : Call) → Sound m (after_by (answer m s c) s (changed m s c)).kept (fed m t c (was_accepted (answer m s c))).kept
  step c = step_by c (answer m s c) (because m s c)
