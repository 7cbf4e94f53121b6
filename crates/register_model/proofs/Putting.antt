-- An entry put in, and an entry struck out.
use Rattle.std.proofs.Common.{◌≡◌, ℕ, Bool, true, false, List, [], ◌∷◌, Option, inl, ⊎_elim}
use Rattle.std.specs.List.{AllByRecursion}
use Rattle.std.specs.Str.{bytes_eq}
use Rattle.std.proofs.lemmas.Slice.Eq.{bytes_eq-Decides}
use Rattle.std.proofs.lemmas.Bool.{both_ways, cases_Bool}
use Rattle.protections.specs.declared.rules.Mode.{Mode}
use Rattle.tag.proofs.Members.{Among}
use Rattle.tag.proofs.Members.{all_from_each, each_from_all}
use Rattle.meetings.specs.Meeting.{meet}
use Rattle.register_model.specs.Entries.{Entry, precedes, put, slot, strike}
use Rattle.register_model.specs.Calls.{Kept, number_at}
use Rattle.meetings.proofs.Meetings.{meet_decides, meets_turned}
use Rattle.register_model.proofs.Orders.{precedes_further, precedes_turned}
use Rattle.register_model.proofs.Inserted.{Inserted, Pairwise, all_inserted, inserted_at}
use Rattle.register_model.proofs.Inserted.Inserted.{here, there}

-- The entry of the name x stands among these: it has the number that the name has, and `strike` takes it out.
pub record Struck (x : List ℕ) (es : Kept) : Type 0 where
  pub entry : Entry (Option Mode)
  pub named : entry.name ≡ x
  pub numbered : number_at x es ≡ entry.number
  pub taken : Inserted entry (strike x es) es

-- A name that an entry has is struck.
pub struck : (x : List ℕ) (es : Kept) (d : Entry (Option Mode)) → Among d es → d.name ≡ x → Struck x es
unfolding strike number_at
struck x [] d m n = absurd m
struck x (e ∷ es) d m n =
    ⊎_elim
    (λ t. record { entry = e; named = (bytes_eq-Decides e.name x).0 t; numbered = rw t; taken = rw t here })
    (λ f.
    ⊎_elim
    (λ q. absurd (both_ways _ f ((bytes_eq-Decides e.name x).1 (cc))))
    (λ k. let s = struck x es d k n in record { entry = s.entry; named = s.named; numbered = rw f s.numbered; taken = rw f (there s.taken) })
    m)
    (cases_Bool (bytes_eq e.name x))

module _ (together : List ℕ → List ℕ → Bool) where
  -- The name of d precedes that of e, and they do not meet.
  abbrev pub Orderly : Entry (Option Mode) → Entry (Option Mode) → Type 0
  Orderly d e = (precedes d.name e.name ≡ true) × (meet together d.name e.name ≡ false)

  -- The name of d meets that of e in neither order.
  abbrev pub Clear : Entry (Option Mode) → Entry (Option Mode) → Type 0
  Clear e d = (meet together d.name e.name ≡ false) × (meet together e.name d.name ≡ false)

  -- Names that do not meet differ.
  pub unmet_differ : (x y : List ℕ) → meet together x y ≡ false → x ≡ y → ⊥
  unmet_differ x y f e = both_ways _ f ((meet_decides together x y).1 (inl e))

  -- Names that do not meet in one order do not meet in the other.
  pub unmet_turned : ((a b : List ℕ) → together a b ≡ true → together b a ≡ true)
      → (x y : List ℕ) → meet together x y ≡ false → meet together y x ≡ false
  unmet_turned symmetric x y f =
      ⊎_elim
      (λ t. absurd (both_ways _ f ((meet_decides together x y).1 (meets_turned together symmetric y x ((meet_decides together y x).0 t)))))
      (λ g. g)
      (cases_Bool (meet together y x))

  -- An entry that meets none is put in at its place.
  pub put_orderly : (e : Entry (Option Mode)) (es : Kept) → Pairwise Orderly es → AllByRecursion (Clear e) es → Pairwise Orderly (put e es)
  unfolding slot
  put_orderly e [] h a = (tt, tt)
  put_orderly e (d ∷ es) h a =
      ⊎_elim
      (λ t. rw t (all_inserted (Orderly d) (inserted_at e (slot e.name es) es) (t, a.0.0) h.0, put_orderly e es h.1 a.1))
      (λ f.
      let first : precedes e.name d.name ≡ true = precedes_turned d.name e.name f (unmet_differ _ _ a.0.0) in
      rw f (
        (
          (first, a.0.1),
          all_from_each (Orderly e) es
              (λ c m. (
                precedes_further e.name d.name c.name first (each_from_all (Orderly d) es h.0 c m).0,
                (each_from_all (Clear e) es a.1 c m).1,
              )),
        ),
        h,
      ))
      (cases_Bool (precedes d.name e.name))
