-- The search for the first kept name that meets another finds what it says.
use Rattle.std.proofs.Common.{◌≡◌, ℕ, suc, Bool, true, false, not, ◌&&◌, List, [], ◌∷◌, Some, None, Option, sym, refl, ap, subst, ⊎_elim}
use Rattle.std.specs.Option.{option_map}
use Rattle.std.specs.Str.{bytes_eq}
use Rattle.std.proofs.lemmas.Bool.{and_from, and_parts, both_ways, cases_Bool, not-true}
use Rattle.std.proofs.lemmas.Slice.Eq.{bytes_eq-Decides}
use Rattle.tag.proofs.Members.{among_contains, contains_among}
use Rattle.protections.specs.declared.rules.Mode.{Mode}
use Rattle.meetings.specs.Meeting.{meet}
use Rattle.meetings.proofs.Meetings.{meet_decides}
use Rattle.register_model.specs.Entries.{Entry, first_place}
use Rattle.register_model.specs.Calls.{Kept, first_meeting, left_aside}
use Rattle.register_model.specs.Reasons.{IsFirstMeeting, MeetsBut, NoneMeets}

-- The test that finds the name that is left aside.
aside_false : (aside : Option (List ℕ)) (x : List ℕ) → (aside ≡ Some x → ⊥) → not (left_aside aside x) ≡ true
aside_false None x n = refl
aside_false (Some old) x n =
    ⊎_elim
    (λ t. absurd (n (ap Some (sym ((bytes_eq-Decides x old).0 t)))))
    (λ f. rw f refl)
    (cases_Bool (bytes_eq x old))

false_aside : (aside : Option (List ℕ)) (x : List ℕ) → not (left_aside aside x) ≡ true → aside ≡ Some x → ⊥
false_aside None x h e = cc
false_aside (Some old) x h e =
    let same : old ≡ x = cc in
    both_ways _ (not-true _ h) ((bytes_eq-Decides x old).1 (sym same))

module _ (together : List ℕ → List ℕ → Bool) (aside : Option (List ℕ)) (x : List ℕ) where
  -- The test of the search.
  abbrev pub meets_test : Entry (Option Mode) → Bool
  meets_test e = not (left_aside aside e.name) && meet together e.name x

  pub meets_from : (e : Entry (Option Mode)) → meets_test e ≡ true → MeetsBut together aside x e
  meets_from e t =
      let both = and_parts _ _ t in
      ((meet_decides together e.name x).0 both.1, false_aside aside e.name both.0)

  pub from_meets : (e : Entry (Option Mode)) → MeetsBut together aside x e → meets_test e ≡ true
  from_meets e m = and_from _ _ (aside_false aside e.name m.1) ((meet_decides together e.name x).1 m.0)

  none_more : (e : Entry (Option Mode)) (es : Kept) → meets_test e ≡ false → NoneMeets together aside x es
      → NoneMeets together aside x (e ∷ es)
  none_more e es f n d k m =
      ⊎_elim
      (λ q. both_ways _ f (from_meets e (subst (MeetsBut together aside x) q m)))
      (λ l. n d (contains_among es d l) m)
      (among_contains (e ∷ es) d k)

  first_more : (e : Entry (Option Mode)) (es : Kept) (o : Option ℕ) → meets_test e ≡ false → IsFirstMeeting together aside x es o
      → IsFirstMeeting together aside x (e ∷ es) (option_map suc o)
  first_more e es None f n = none_more e es f n
  first_more e es (Some p) f r = record {
    before = e ∷ r.before;
    entry = r.entry;
    after = r.after;
    parts = ap (λ t. e ∷ t) r.parts;
    place = ap suc r.place;
    meets = r.meets;
    none_before = none_more e r.before f r.none_before;
  }

  pub first_found : (es : Kept) → IsFirstMeeting together aside x es (first_meeting together aside x es)
  unfolding first_meeting first_place
  first_found [] = λ e k m. absurd (among_contains [] e k)
  first_found (e ∷ es) =
      ⊎_elim
      (λ t. rw t (record { before = []; entry = e; after = es; parts = refl; place = refl; meets = meets_from e t; none_before = λ d k m. absurd (among_contains [] d k) }))
      (λ f. rw f (first_more e es (first_meeting together aside x es) f (first_found es)))
      (cases_Bool (meets_test e))
