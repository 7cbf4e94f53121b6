-- What holds of a register whatever calls led to it, and after any list of calls.
use Rattle.std.proofs.Common.{◌≡◌, ℕ, suc, ◌<◌, true, List, [], ◌∷◌, ◌++◌, length, Some, None, Option, sym, refl, ap, ◌∙◌, subst, inl, ⊎_elim, arith}
use Rattle.std.specs.List.{Contains, slice_get}
use Rattle.std.proofs.lemmas.Bool.{both_ways, cases_Bool}
use Rattle.tag.proofs.Members.{Among}
use Rattle.tag.proofs.Members.{all_from_each, among_contains, contains_among, each_from_all}
use Rattle.protections.specs.declared.rules.Mode.{Mode}
use Rattle.filesystems.specs.Keys.{Key}
use Rattle.meetings.specs.Meeting.{Meets, meet}
use Rattle.meetings.proofs.Meetings.{meet_decides, meets_turned, starts_meets}
use Rattle.register_model.specs.Entries.{Entry, new_entry}
use Rattle.register_model.specs.Calls.{Call, Kept, Meaning, Outcome, State, answer, no_entries, state_after}
use Rattle.register_model.specs.Calls.Call.{enter, offer, remove, rename}
use Rattle.register_model.specs.Claim.{Answered, Apart, Claim, Done, Holds, MendingLaws, OffersClaim, OffersExact, Ran, SameEntries, tally}
use Rattle.register_model.proofs.Laws.{Lawful}
use Rattle.register_model.specs.Claim.Ran.{next, start}
use Rattle.register_model.specs.Reasons.{Because}
use Rattle.register_model.proofs.Inserted.{Pairwise, pairwise_at}
use Rattle.register_model.proofs.Putting.{Orderly}
use Rattle.register_model.proofs.Tallies.{Sound, unmet_unique}
use Rattle.register_model.proofs.Becauses.{because}
use Rattle.register_model.proofs.Steps.{step}
use Rattle.register_model.proofs.Exact.{enter_exact, offer_exact, offer_pass, remove_exact, rename_exact}

-- Each call of a run gave its answer after the earlier calls.
ran_at : (m : Meaning) (first : State) {ds : List Done} {s : State} → Ran m first ds s → (later earlier : List Done) (d : Done)
    → ds ≡ later ++ (d ∷ earlier) → (before : State) × Ran m first earlier before × (d.outcome ≡ answer m before d.call)
ran_at m first start [] earlier d e = cc
ran_at m first start (c ∷ later) earlier d e = cc
ran_at m first (next {ds} {s} r c o after a l) [] earlier d e =
    let same : ds ≡ earlier = cc in
    let newest : record { call = c; outcome = o } ≡ d = cc in
    (s, subst (λ l. Ran m first l s) same r, subst (λ z. z.outcome ≡ answer m s z.call) newest a)
ran_at m first (next {ds} r c o after a l) (b ∷ later) earlier d e =
    let more : ds ≡ later ++ (d ∷ earlier) = cc in ran_at m first r later earlier d more

-- An entry among others has a place.
among_place : (es : Kept) (e : Entry (Option Mode)) → Among e es → (p : ℕ) × (p < length es) × (slice_get es p ≡ Some e)
among_place [] e k = absurd k
among_place (d ∷ es) e k =
    ⊎_elim
    (λ q. (0, omega arith, ap Some (sym q)))
    (λ n. let r = among_place es e n in let l = r.1 in (suc r.0, omega arith, r.2))
    k

-- An entry in front is one of the entries.
newest_contained : (e : Entry (Option Mode)) (es : Kept) → Contains (e ∷ es) e
newest_contained e es = contains_among (e ∷ es) e (inl refl)

-- What stands before and after an element.
among_split : {X : Type 0} (xs : List X) (x : X) → Among x xs → (q : List X) × (r : List X) × (xs ≡ q ++ x ∷ r)
among_split [] x k = absurd k
among_split (y ∷ xs) x k =
    ⊎_elim
    (λ e. ([], xs, ap (λ z. z ∷ xs) (sym e)))
    (λ n. let s = among_split xs x n in (y ∷ s.0, s.1, ap (λ t. y ∷ t) s.2))
    k

-- What holds of each two elements at different places.
pairwise_from : {X : Type 0} (R : X → X → Type 0) (xs : List X)
    → ((p q r : List X) (x y : X) → xs ≡ p ++ (x ∷ (q ++ (y ∷ r))) → R x y) → Pairwise R xs
pairwise_from R [] f = tt
pairwise_from R (x ∷ xs) f = (
  all_from_each (R x) xs (λ y k. let s = among_split xs y k in f [] s.0 s.1 x y (ap (λ t. x ∷ t) s.2)),
  pairwise_from R xs (λ p q r y z e. f (x ∷ p) q r y z (ap (λ t. x ∷ t) e)),
)

-- The laws of file systems that the claim needs.
module _ (m : Meaning)
    (symmetric : (a b : List ℕ) → m.together a b ≡ true → m.together b a ≡ true)
    (equal_keys_together : (key : Key) (a b : List ℕ) → Contains m.keys key → key a ≡ key b → m.together a b ≡ true) where
  -- A run from no entries leaves the entries of its tally.
  ran_sound : {ds : List Done} {s : State} → Ran m no_entries ds s → Sound m s.kept (tally m ds).kept
  unfolding tally
  ran_sound start = record { orderly = tt; few = omega arith; fit = tt; put_in = λ e k. k; no_more = λ e k. k; as_many = refl; unique = tt }
  ran_sound (next {ds} {s} r c o after a l) = rw (l, a) (step m symmetric s (tally m ds) (ran_sound r) c)

  module _ (es t : Kept) (sound : Sound m es t) where
    -- Two entries at different places are in order, and do not meet.
    at_places : (p q r : Kept) (d e : Entry (Option Mode)) → es ≡ p ++ (d ∷ (q ++ (e ∷ r))) → Orderly m.together d e
    at_places p q r d e s = pairwise_at (Orderly m.together) p q r d e (subst (Pairwise (Orderly m.together)) s sound.orderly)

    -- The same in words.
    no_two : (p q r : Kept) (d e : Entry (Option Mode)) → es ≡ p ++ (d ∷ (q ++ (e ∷ r))) → Meets m.together d.name e.name → ⊥
    no_two p q r d e s k = both_ways _ (at_places p q r d e s).1 ((meet_decides m.together d.name e.name).1 k)

    -- The entries are those of the tally.
    sound_same : SameEntries es t
    sound_same = record {
      all_put_in = λ e k. among_place es e (sound.put_in e (among_contains t e k));
      none_else = λ e k. contains_among t e (sound.no_more e (among_contains es e k));
      as_many = sound.as_many;
    }

    -- No two names meet, and no list of keys begins another.
    sound_apart : Apart m es
    sound_apart = record {
      no_two_meet = no_two;
      no_key_list_begins = λ key k p q r d e s.
          let law : (a b : List ℕ) → key a ≡ key b → m.together a b ≡ true = λ a b. equal_keys_together key a b k in (
            λ b. no_two p q r d e s (starts_meets m.together key law d.name e.name b),
            λ b. no_two p q r d e s
                (meets_turned m.together symmetric e.name d.name (starts_meets m.together key law e.name d.name b)),
          );
    }

  -- What holds of every register.
  sound_holds : (s : State) (t : Kept) → Sound m s.kept t → Holds m s
  sound_holds s t sound = record {
    ascends = λ p q r d e at. (at_places s.kept t sound p q r d e at).0;
    few = sound.few;
    fit = λ e k. each_from_all _ s.kept sound.fit e (among_contains s.kept e k);
    apart = sound_apart s.kept t sound;
  }

  -- It says that the entries are sound with themselves.
  holds_sound : (s : State) → Holds m s → Sound m s.kept s.kept
  holds_sound s h =
      let orderly : Pairwise (Orderly m.together) s.kept
      = pairwise_from (Orderly m.together) s.kept (λ p q r d e at. (
        h.ascends p q r d e at,
        ⊎_elim
            (λ t. absurd (h.apart.no_two_meet p q r d e at ((meet_decides m.together d.name e.name).0 t)))
            (λ f. f)
            (cases_Bool (meet m.together d.name e.name)),
      )) in
      record {
        orderly = orderly;
        few = h.few;
        fit = all_from_each _ s.kept (λ e k. h.fit e (contains_among s.kept e k));
        put_in = λ e k. k;
        no_more = λ e k. k;
        as_many = refl;
        unique = unmet_unique m s.kept orderly;
      }

  module _ {ds : List Done} {s : State} (ran : Ran m no_entries ds s) where
    -- A call of the run was answered for its reason, and the entries were sound with the tally then.
    reason_at : (c : Call) (o : Outcome) (earlier : List Done) → Answered ds c o earlier
        → (before : State) × Sound m before.kept (tally m earlier).kept × Because m before c o
    reason_at c o earlier a =
        let r = ran_at m no_entries ran a.0 earlier _ a.1 in
        (r.0, ran_sound r.1, subst (Because m r.0 c) (sym r.2) (because m r.0 c))

    -- The whole claim.
    pub claim_by_laws : Claim m ds s
    claim_by_laws =
        let sound = ran_sound ran in
        record {
          entries = sound_same s.kept (tally m ds).kept sound;
          holds = sound_holds s (tally m ds).kept sound;
          enters_exact = λ x n mode o earlier a fit.
              let r = reason_at (enter x n mode) o earlier a in enter_exact m r.0.kept (tally m earlier).kept r.1 x mode r.2 fit;
          renames_exact = λ old new mode o earlier a fit.
              let r = reason_at (rename old new mode) o earlier a in rename_exact m r.0.kept (tally m earlier).kept r.1 old new mode r.2 fit;
          removes_exact = λ x o earlier a.
              let r = reason_at (remove x) o earlier a in remove_exact m r.0.kept (tally m earlier).kept r.1 x r.2;
        }

    pub offers_by_laws : MendingLaws m.ruling m.mended → OffersExact m ds
    offers_by_laws mending text n o earlier a l =
        let r = reason_at (offer text n) o earlier a in offer_exact m r.0.kept (tally m earlier).kept r.1 text r.2 l mending

module _ (m : Meaning) (lawful : Lawful m) where
  -- What holds of every register holds of one with no entry, and stays with every call.
  pub holds_first : Holds m no_entries
  unfolding tally
  holds_first =
      sound_holds m lawful.symmetric lawful.equal_keys_together no_entries []
      (ran_sound m lawful.symmetric lawful.equal_keys_together start)

  pub holds_after : (s : State) → Holds m s → (c : Call) → Holds m (state_after m s c)
  holds_after s h c =
      sound_holds m lawful.symmetric lawful.equal_keys_together (state_after m s c) _
      (step m lawful.symmetric s s (holds_sound m lawful.symmetric lawful.equal_keys_together s h) c)

pub claim : (m : Meaning) → Lawful m → (first : State) (ds : List Done) (s : State) → Ran m first ds s → first ≡ no_entries → Claim m ds s
claim m lawful first ds s ran e = claim_by_laws m lawful.symmetric lawful.equal_keys_together (subst (λ z. Ran m z ds s) e ran)

pub offers_exact : (m : Meaning) → Lawful m → MendingLaws m.ruling m.mended → (first : State) (ds : List Done) (s : State) → Ran m first ds s → first ≡ no_entries
    → OffersExact m ds
offers_exact m lawful mending first ds s ran e = offers_by_laws m lawful.symmetric lawful.equal_keys_together (subst (λ z. Ran m z ds s) e ran) mending

-- The offers of every run.
pub offers : (m : Meaning) → MendingLaws m.ruling m.mended → (first : State) (ds : List Done) (s : State) → Ran m first ds s → OffersClaim m ds
unfolding tally
offers m mending first ds s ran = record {
  offers_pass = λ text n o earlier k i v a e.
      let r = ran_at m first ran a.0 earlier _ a.1 in
      offer_pass (because m r.0 (offer text n)) mending k i v (sym r.2 ∙ e);
  offers_unchanged = λ text n o earlier a fine k.
      rw k
      (subst (λ x. Contains (new_entry x n None ∷ (tally m earlier).kept) (new_entry text n None)) (sym (mending.allowed_stays text fine))
      (newest_contained (new_entry text n None) (tally m earlier).kept));
}
