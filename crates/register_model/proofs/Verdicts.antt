-- The file system passes a name exactly when the search for the first verdict on its components finds none, and what it finds
-- is the first verdict.
use Rattle.std.proofs.Common.{◌≡◌, ℕ, ◌+◌, List, [], ◌∷◌, ◌++◌, length, Some, None, ◌⊎◌, Option, sym, refl, ap, ◌∙◌, inl, inr, ⊎_elim, arith}
use Rattle.std.proofs.lemmas.List.{append_assoc}
use Rattle.tag.specs.Components.{components}
use Rattle.tag.proofs.Members.{Among}
use Rattle.tag.proofs.Members.{among_at, among_contains, contains_among}
use Rattle.protections.specs.declared.rules.Mode.{Mode}
use Rattle.register_model.specs.Calls.{Fault, Meaning, first_verdict, or_else}
use Rattle.register_model.specs.Calls.Fault.{by_component}
use Rattle.register_model.specs.Reasons.{Passes, VerdictAt, mode_before}

-- A verdict is the first, or the next one is.
first_or_next : (v : Option ℕ) (i : ℕ) (next : Option Fault) (o : Option Fault) → or_else v i next ≡ o
    → ((n : ℕ) × (v ≡ Some n) × (Some (by_component n i) ≡ o)) ⊎ ((v ≡ None) × (next ≡ o))
first_or_next (Some n) i next o e = inl (n, refl, e)
first_or_next None i next o e = inr (refl, e)

no_first : (v : Option ℕ) (i : ℕ) (next : Option Fault) → or_else v i next ≡ None → (v ≡ None) × (next ≡ None)
no_first (Some n) i next e = cc
no_first None i next e = (refl, e)

-- Where it can be no fault, it is none.
none_unless : (o : Option Fault) → ((f : Fault) → o ≡ Some f → ⊥) → o ≡ None
none_unless (Some f) n = absurd (n f refl)
none_unless None n = refl

-- A list that is not empty has a last element.
with_last : {X : Type 0} (xs : List X) → (xs ≡ [] → ⊥) → (front : List X) × (last : X) × (xs ≡ front ++ last ∷ [])
with_last [] n = absurd (n refl)
with_last (x ∷ []) n = ([], x, refl)
with_last (x ∷ (y ∷ ys)) n =
    let r = with_last (y ∷ ys) (λ e. cc) in
    (x ∷ r.0, r.1, ap (λ t. x ∷ t) r.2)

append_some : {X : Type 0} (xs : List X) (y : X) → xs ++ y ∷ [] ≡ [] → ⊥
append_some [] y e = cc
append_some (x ∷ xs) y e = cc

module _ (verdict : List ℕ → Option Mode → Option ℕ) (mode : Option Mode) where
  -- The first verdict on these components, the first of which has the index i.
  pub record First (i : ℕ) (cs : List (List ℕ)) (f : Fault) : Type 0 where
    pub number : ℕ
    pub before : List (List ℕ)
    pub component : List ℕ
    pub after : List (List ℕ)
    pub parts : cs ≡ before ++ component ∷ after
    pub fault : f ≡ by_component number (i + length before)
    pub given : verdict component (mode_before after mode) ≡ Some number
    pub none_before : (c : List ℕ) → Among c before → verdict c None ≡ None

  -- It is that of the component in front.
  first_here : (i n : ℕ) (c : List ℕ) (cs : List (List ℕ)) (f : Fault) → verdict c (mode_before cs mode) ≡ Some n
      → Some (by_component n i) ≡ Some f → First i (c ∷ cs) f
  first_here i n c cs f v e =
      let same : by_component n i ≡ f = cc in
      let here : i ≡ i + 0 = omega arith in
      record {
        number = n;
        before = [];
        component = c;
        after = cs;
        parts = refl;
        fault = sym same ∙ ap (by_component n) here;
        given = v;
        none_before = λ z k. absurd k;
      }

  -- It is that of a later one.
  first_later : (i : ℕ) (c : List ℕ) (cs : List (List ℕ)) (f : Fault) → verdict c None ≡ None → First (i + 1) cs f → First i (c ∷ cs) f
  first_later i c cs f v r =
      let later : i + 1 + length r.before ≡ i + length (c ∷ r.before) = omega arith in
      record {
        number = r.number;
        before = c ∷ r.before;
        component = r.component;
        after = r.after;
        parts = ap (λ t. c ∷ t) r.parts;
        fault = r.fault ∙ ap (by_component r.number) later;
        given = r.given;
        none_before = λ z k. ⊎_elim (λ q. ap (λ y. verdict y None) q ∙ v) (λ n. r.none_before z n) k;
      }

  first_at : (i : ℕ) (cs : List (List ℕ)) (f : Fault) → first_verdict verdict mode i cs ≡ Some f → First i cs f
  unfolding first_verdict
  first_at i [] f e = cc
  first_at i (c ∷ []) f e =
      ⊎_elim (λ h. first_here i h.0 c [] f h.1 h.2) (λ h. let no = h.1 in cc) (first_or_next (verdict c mode) i None (Some f) e)
  first_at i (c ∷ (d ∷ cs)) f e =
      ⊎_elim
      (λ h. first_here i h.0 c (d ∷ cs) f h.1 h.2)
      (λ h. first_later i c (d ∷ cs) f h.0 (first_at (i + 1) (d ∷ cs) f h.1))
      (first_or_next (verdict c None) i _ (Some f) e)

  -- A component before others has no mode.
  pub before_others : (i : ℕ) (c : List ℕ) (cs : List (List ℕ)) → (cs ≡ [] → ⊥)
      → first_verdict verdict mode i (c ∷ cs) ≡ or_else (verdict c None) i (first_verdict verdict mode (i + 1) cs)
  unfolding first_verdict
  before_others i c [] n = absurd (n refl)
  before_others i c (d ∷ cs) n = refl

  none_found : (i : ℕ) (front : List (List ℕ)) (last : List ℕ) → first_verdict verdict mode i (front ++ last ∷ []) ≡ None
      → (verdict last mode ≡ None) × ((c : List ℕ) → Among c front → verdict c None ≡ None)
  unfolding first_verdict
  none_found i [] last e = ((no_first (verdict last mode) i None e).0, λ c k. absurd k)
  none_found i (d ∷ front) last e =
      let s = no_first (verdict d None) i _ (sym (before_others i d (front ++ last ∷ []) (append_some front last)) ∙ e) in
      let r = none_found (i + 1) front last s.1 in
      (r.0, λ c k. ⊎_elim (λ q. ap (λ z. verdict z None) q ∙ s.0) (λ n. r.1 c n) k)

module _ (m : Meaning) (x : List ℕ) (mode : Option Mode) where
  -- Where the search finds none, the file system passes the name.
  pub passes_from : first_verdict m.verdict mode 0 (components x) ≡ None → Passes m x mode
  passes_from u front last e =
      let r = none_found m.verdict mode 0 front last (ap (first_verdict m.verdict mode 0) (sym e) ∙ u) in
      (r.0, λ c k. r.1 c (among_contains front c k))

  -- What it finds is the first verdict.
  pub verdict_from : (f : Fault) → first_verdict m.verdict mode 0 (components x) ≡ Some f
      → (n i : ℕ) × VerdictAt m x mode n i × (f ≡ by_component n i)
  verdict_from f e =
      let r = first_at m.verdict mode 0 (components x) f e in
      let at : 0 + length r.before ≡ length r.before = omega arith in (
        r.number,
        length r.before,
        record {
          before = r.before;
          component = r.component;
          after = r.after;
          parts = r.parts;
          index = refl;
          verdict = r.given;
          none_before = λ c k. r.none_before c (among_contains r.before c k);
        },
        r.fault ∙ ap (by_component r.number) at,
      )

  -- A name with a verdict is not passed.
  pub verdict_not_passed : (n i : ℕ) → VerdictAt m x mode n i → Passes m x mode → ⊥
  verdict_not_passed n i v p = go v.after v.parts v.verdict
    where
      go : (after : List (List ℕ)) → components x ≡ v.before ++ v.component ∷ after
          → m.verdict v.component (mode_before after mode) ≡ Some n → ⊥
      go [] parts given = let none = (p v.before v.component parts).0 in cc
      go (a ∷ after) parts given =
          let s = with_last (a ∷ after) (λ e. cc) in
          let whole : components x ≡ (v.before ++ v.component ∷ s.0) ++ s.1 ∷ []
          = parts ∙ (ap (λ t. v.before ++ v.component ∷ t) s.2 ∙ sym (append_assoc v.before (v.component ∷ s.0) (s.1 ∷ []))) in
          let none = (p (v.before ++ v.component ∷ s.0) s.1 whole).1 v.component
          (contains_among _ v.component (among_at v.before v.component s.0)) in
          cc

  -- Where the file system passes the name, the search finds none.
  pub unjudged_from : Passes m x mode → first_verdict m.verdict mode 0 (components x) ≡ None
  unjudged_from p = none_unless _ (λ f e. let v = verdict_from f e in verdict_not_passed v.0 v.1 v.2 p)
