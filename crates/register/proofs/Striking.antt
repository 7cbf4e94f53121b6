-- An entry taken out by its name, and by its place.
use Rattle.std.proofs.Common.{◌≡◌, ℕ, suc, ◌<◌, true, false, List, [], ◌∷◌, length, Some, None, Option, refl, ap, subst, ⊎_elim, arith}
use Rattle.std.specs.Option.{option_map}
use Rattle.std.specs.Str.{bytes_eq}
use Rattle.std.proofs.lemmas.Bool.{cases_Bool}
use Rattle.std.proofs.lemmas.Slice.Eq.{bytes_eq-Decides}
use Rattle.protections.specs.declared.rules.Mode.{Mode}
use Rattle.register_model.specs.Calls.{Kept, number_at}
use Rattle.register_model.specs.Entries.{Entry, first_place, place_of, strike}
use Rattle.register_model.specs.Reasons.{OneMore}
use Rattle.register_model.proofs.Places.{later_put}
use Rattle.std.specs.List.{remove}
use Rattle.register.specs.Entries.{number_by_place}

-- The name x stands at the place p among es.
pub record Stands (x : List ℕ) (es : Kept) (p : ℕ) : Type 0 where
  pub struck : strike x es ≡ remove es p
  pub numbered : number_at x es ≡ number_by_place p es
  pub inside : p < length es
  pub was : Option Mode
  pub taken : OneMore x (number_by_place p es) was p (remove es p) es

-- Where one more stands in front, the place is one later.
place_after : (o : Option ℕ) (p : ℕ) → option_map suc o ≡ Some p → (k : ℕ) × (o ≡ Some k) × (suc k ≡ p)
place_after None p e = cc
place_after (Some k) p e = let s : suc k ≡ p = cc in (k, refl, s)

module _ (x : List ℕ) (e : Entry (Option Mode)) (es : Kept) where
  stands_first : bytes_eq e.name x ≡ true → Stands x (e ∷ es) 0
  unfolding strike number_at number_by_place
  stands_first t =
      record {
        struck = rw t;
        numbered = rw t;
        inside = omega arith;
        was = e.mode;
        taken = record {
          front = [];
          back = es;
          without = refl;
          with_it = ap (λ z. record { name = z; number = e.number; mode = e.mode } ∷ es) ((bytes_eq-Decides e.name x).0 t);
          place = refl;
        };
      }

  stands_later : (k : ℕ) → bytes_eq e.name x ≡ false → Stands x es k → Stands x (e ∷ es) (suc k)
  unfolding strike number_at number_by_place
  stands_later k f s =
      let l = s.inside in
      record {
        struck = rw f (ap (λ t. e ∷ t) s.struck);
        numbered = rw f s.numbered;
        inside = omega arith;
        was = s.was;
        taken = later_put e s.taken;
      }

-- A name that has a place stands there.
pub stands : (x : List ℕ) (es : Kept) (p : ℕ) → place_of x es ≡ Some p → Stands x es p
unfolding first_place
stands x [] p h = cc
stands x (e ∷ es) p h =
    ⊎_elim
    (λ t. let q : Some 0 ≡ Some p = rw t at h in let z : 0 ≡ p = cc in subst (Stands x (e ∷ es)) z (stands_first x e es t))
    (λ f.
    let later : option_map suc (place_of x es) ≡ Some p = rw f at h in
    let r = place_after (place_of x es) p later in
    subst (Stands x (e ∷ es)) r.2 (stands_later x e es r.0 f (stands x es r.0 r.1)))
    (cases_Bool (bytes_eq e.name x))
