-- The entries and the tally of a run, and what an entry put in or struck out leaves of them.
use Rattle.std.proofs.Common.{◌≡◌, ℕ, suc, ◌<◌, ◌≤◌, true, false, List, ◌∷◌, length, Option, sym, refl, ap, ◌∙◌, inl, inr, ⊎_elim, arith}
use Rattle.std.specs.List.{AllByRecursion}
use Rattle.std.proofs.ByRecursion.{All-weaker}
use Rattle.tag.proofs.Members.{Among}
use Rattle.tag.proofs.Members.{all_from_each, each_from_all}
use Rattle.protections.specs.declared.rules.Mode.{Mode}
use Rattle.meetings.specs.Meeting.{meet}
use Rattle.register_model.specs.Entries.{Entry, put, slot, strike}
use Rattle.register_model.specs.Calls.{Kept, Meaning, number_at}
use Rattle.register_model.specs.Reasons.{IsFit}
use Rattle.register_model.specs.declared.TheConstants.{CAPACITY}
use Rattle.register_model.proofs.Inserted.{Inserted, Pairwise, all_inserted, all_without, among_inserted, inserted_at, inserted_length, inserted_only, pairwise_taken, pairwise_weaker, pairwise_without}
use Rattle.register_model.proofs.Putting.{Orderly, Struck, put_orderly, struck, unmet_differ, unmet_turned}

-- The names differ.
abbrev pub Differ : Entry (Option Mode) → Entry (Option Mode) → Type 0
Differ d e = d.name ≡ e.name → ⊥

-- The entries es of a register are in order, apart, few and fit, and they are those of t, in which no name comes twice.
pub record Sound (m : Meaning) (es t : Kept) : Type 0 where
  pub orderly : Pairwise (Orderly m.together) es
  pub few : length es ≤ CAPACITY
  pub fit : AllByRecursion (λ e. IsFit m e.name e.mode) es
  pub put_in : (e : Entry (Option Mode)) → Among e t → Among e es
  pub no_more : (e : Entry (Option Mode)) → Among e es → Among e t
  pub as_many : length es ≡ length t
  pub unique : Pairwise Differ t

-- Where no name comes twice, none of the others has the name that was struck.
struck_others : (x : List ℕ) (es : Kept) → Pairwise Differ es → Struck x es
    → (c : Entry (Option Mode)) → Among c (strike x es) → c.name ≡ x → ⊥
struck_others x es u s c m e =
    ⊎_elim (λ d. d (s.named ∙ sym e)) (λ d. d (e ∙ sym s.named)) (pairwise_taken Differ s.taken u c m)

-- What two lists share, they share when a name is struck from both.
strike_keeps : (x : List ℕ) (es t : Kept) → Pairwise Differ es → Struck x es → Struck x t
    → ((c : Entry (Option Mode)) → Among c es → Among c t)
    → (c : Entry (Option Mode)) → Among c (strike x es) → Among c (strike x t)
strike_keeps x es t u s r f c m =
    ⊎_elim
    (λ e. absurd (struck_others x es u s c m (ap (λ z. z.name) e ∙ r.named)))
    (λ k. k)
    (inserted_only r.taken c (f c (among_inserted s.taken c (inr m))))

-- No name comes twice among entries that are in order and apart.
pub unmet_unique : (m : Meaning) (es : Kept) → Pairwise (Orderly m.together) es → Pairwise Differ es
unmet_unique m es orderly = pairwise_weaker (Orderly m.together) Differ (λ d e o. unmet_differ m.together _ _ o.1) es orderly

module _ (m : Meaning) (es t : Kept) (sound : Sound m es t) where
  entries_unique : Pairwise Differ es
  entries_unique = unmet_unique m es sound.orderly

  -- A fit entry that meets none, put in where there is room, leaves them sound.
  pub sound_put : ((a b : List ℕ) → m.together a b ≡ true → m.together b a ≡ true)
      → (e : Entry (Option Mode)) → IsFit m e.name e.mode → length es < CAPACITY → AllByRecursion (λ d. meet m.together d.name e.name ≡ false) es
      → Sound m (put e es) (e ∷ t)
  sound_put symmetric e f room a =
      let i : Inserted e es (put e es) = inserted_at e (slot e.name es) es in
      record {
        orderly = put_orderly m.together e es sound.orderly (All-weaker _ _ (λ d u. (u, unmet_turned m.together symmetric _ _ u)) es a);
        few = omega (arith, inserted_length i, room);
        fit = all_inserted _ i f sound.fit;
        put_in = λ c k. among_inserted i c (⊎_elim inl (λ n. inr (sound.put_in c n)) k);
        no_more = λ c k. ⊎_elim inl (λ n. inr (sound.no_more c n)) (inserted_only i c k);
        as_many = inserted_length i ∙ ap suc sound.as_many;
        unique = (all_from_each (Differ e) t (λ d n q. unmet_differ m.together _ _ (each_from_all _ es a d (sound.put_in d n)) (sym q)), sound.unique);
      }

  module _ (x : List ℕ) (d : Entry (Option Mode)) (among : Among d es) (named : d.name ≡ x) where
    -- A kept name is in the entries and in the tally.
    in_entries : Struck x es
    in_entries = struck x es d among named

    in_tally : Struck x t
    in_tally = struck x t d (sound.no_more d among) named

    -- Struck from both, it leaves them sound.
    pub sound_strike : Sound m (strike x es) (strike x t)
    sound_strike = record {
      orderly = pairwise_without (Orderly m.together) in_entries.taken sound.orderly;
      few = omega (arith, inserted_length in_entries.taken, sound.few);
      fit = all_without _ in_entries.taken sound.fit;
      put_in = strike_keeps x t es sound.unique in_tally in_entries sound.put_in;
      no_more = strike_keeps x es t entries_unique in_entries in_tally sound.no_more;
      as_many = omega (arith, inserted_length in_entries.taken, inserted_length in_tally.taken, sound.as_many);
      unique = pairwise_without Differ in_tally.taken sound.unique;
    }

    -- It leaves room.
    pub struck_room : length (strike x es) < CAPACITY
    struck_room = omega (arith, inserted_length in_entries.taken, sound.few)

    -- It has the same number in both.
    pub same_number : number_at x es ≡ number_at x t
    same_number =
        ⊎_elim
        (λ e. in_entries.numbered ∙ (ap (λ z. z.number) e ∙ sym in_tally.numbered))
        (λ k. absurd (struck_others x t sound.unique in_tally _ k in_entries.named))
        (inserted_only in_tally.taken in_entries.entry (sound.no_more _ (among_inserted in_entries.taken _ (inl refl))))

    -- The others are kept entries, with other names.
    pub others : (c : Entry (Option Mode)) → Among c (strike x es) → Among c es × (c.name ≡ x → ⊥)
    others c k = (among_inserted in_entries.taken c (inr k), struck_others x es entries_unique in_entries c k)
