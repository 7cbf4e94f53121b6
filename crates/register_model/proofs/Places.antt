-- Where a name stands, and where one that is put in stands.
use Rattle.std.proofs.Common.{◌≡◌, ℕ, suc, false, List, [], ◌∷◌, Some, None, Option, refl, ap, ◌∙◌, sym, ⊎_elim}
use Rattle.std.specs.Option.{option_map}
use Rattle.std.specs.Str.{bytes_eq}
use Rattle.std.proofs.lemmas.Bool.{both_ways, cases_Bool}
use Rattle.std.proofs.lemmas.Slice.Eq.{bytes_eq-Decides}
use Rattle.tag.proofs.Members.{among_contains, contains_among}
use Rattle.protections.specs.declared.rules.Mode.{Mode}
use Rattle.register_model.specs.Calls.{Kept}
use Rattle.register_model.specs.Entries.{Entry, precedes, first_place, place_of, put, slot}
use Rattle.register_model.specs.Reasons.{OneMore, NoneNamed, StandsAt}

-- The same with another entry in front of all.
pub later_put : {x : List ℕ} {n p : ℕ} {mode : Option Mode} {fewer more : Kept} (d : Entry (Option Mode))
    → OneMore x n mode p fewer more → OneMore x n mode (suc p) (d ∷ fewer) (d ∷ more)
later_put d r =
    record {
      front = d ∷ r.front;
      back = r.back;
      without = ap (λ es. d ∷ es) r.without;
      with_it = ap (λ es. d ∷ es) r.with_it;
      place = ap suc r.place;
    }

-- An entry put in stands at the place that its name has, and the others stay.
pub put_in : (e : Entry (Option Mode)) (es : Kept) → OneMore e.name e.number e.mode (slot e.name es) es (put e es)
unfolding slot
put_in e [] = record { front = []; back = []; without = refl; with_it = refl; place = refl }
put_in e (d ∷ es) =
    ⊎_elim (λ t. rw t (later_put d (put_in e es)))
    (λ f. rw f (record { front = []; back = d ∷ es; without = refl; with_it = refl; place = refl }))
    (cases_Bool (precedes d.name e.name))

-- An entry of another name in front.
none_more : (x : List ℕ) (e : Entry (Option Mode)) (es : Kept) → bytes_eq e.name x ≡ false → NoneNamed x es → NoneNamed x (e ∷ es)
none_more x e es f n d c q =
    ⊎_elim
    (λ s. both_ways _ f ((bytes_eq-Decides e.name x).1 (ap (λ z. z.name) (sym s) ∙ q)))
    (λ k. n d (contains_among es d k) q)
    (among_contains (e ∷ es) d c)

stands_more : (x : List ℕ) (e : Entry (Option Mode)) (es : Kept) (o : Option ℕ) → bytes_eq e.name x ≡ false → StandsAt x es o
    → StandsAt x (e ∷ es) (option_map suc o)
stands_more x e es None f n = none_more x e es f n
stands_more x e es (Some p) f s = s

-- The search for a name finds where it stands.
pub stands_at : (x : List ℕ) (es : Kept) → StandsAt x es (place_of x es)
unfolding first_place
stands_at x [] = λ e c. absurd (among_contains [] e c)
stands_at x (e ∷ es) =
    ⊎_elim
    (λ t. rw t (e, refl, (bytes_eq-Decides e.name x).0 t))
    (λ f. rw f (stands_more x e es (place_of x es) f (stands_at x es)))
    (cases_Bool (bytes_eq e.name x))
