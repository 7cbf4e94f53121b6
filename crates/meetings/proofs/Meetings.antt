-- The test of meeting decides what meeting means, meeting is symmetric, and names that do not meet are apart under every key.
use Rattle.std.proofs.Common.{◌≡◌, ℕ, Bool, true, false, ◌⊎◌, List, [], ◌∷◌, ◌++◌, map, Decides, sym, refl, ap, ◌∙◌, subst, inl, inr, ⊎_elim, arith}
use Rattle.std.specs.Str.{bytes_eq}
use Rattle.std.proofs.lemmas.Slice.Eq.{bytes_eq-Decides}
use Rattle.std.proofs.lemmas.List.{append-nil, append_assoc}
use Rattle.std.proofs.lemmas.Bool.{both_ways, cases_Bool, cases_eq, cond-false, cond-true, eq-eqb, ne_eqb}
use Rattle.tag.specs.Components.{components, joined, onto}
use Rattle.tag.proofs.Parts.{joined_components, split}
use Rattle.meetings.specs.Meeting.{GoesOn, Meets, keys_under, meet, meet_parts}
use Rattle.tag.specs.Fronts.{Begins}

-- A name has at least one component.
pub some_component : (s : List ℕ) → components s ≡ [] → ⊥
some_component s e = let r = (split s).all in let z : ◌≡◌ {A = ℕ} 0 1 = cc in omega arith

onto_append : (b : ℕ) (cs ds : List (List ℕ)) → (cs ≡ [] → ⊥) → onto b (cs ++ ds) ≡ onto b cs ++ ds
onto_append b [] ds n = absurd (n refl)
onto_append b (c ∷ cs) ds n = refl

-- A slash and more adds components.
pub components_append : (x r : List ℕ) → components (x ++ 47 ∷ r) ≡ components x ++ components r
unfolding components
components_append [] r = refl
components_append (b ∷ x) r =
    ⊎_elim
    (λ e. rw (eq-eqb b 47 e, components_append x r))
    (λ n. rw (ne_eqb b 47 n, components_append x r) (onto_append b (components x) (components r) (some_component x)))
    (cases_eq b 47)

-- Joined components with more behind them.
joined_append : (cs ds : List (List ℕ)) → (cs ≡ [] → ⊥) → (ds ≡ [] → ⊥) → joined (cs ++ ds) ≡ joined cs ++ 47 ∷ joined ds
unfolding joined
joined_append [] ds n m = absurd (n refl)
joined_append (c ∷ []) [] n m = absurd (m refl)
joined_append (c ∷ []) (d ∷ ds) n m = refl
joined_append (c ∷ (e ∷ cs)) ds n m =
    ap (λ t. c ++ 47 ∷ t) (joined_append (e ∷ cs) ds (λ z. let y : ◌≡◌ {A = ℕ} 0 1 = cc in omega arith) m)
    ∙ sym (append_assoc c (47 ∷ joined (e ∷ cs)) (47 ∷ joined ds))

-- The components of x begin those of y exactly where y is x or goes on after it.
starts_from : (x y : List ℕ) → (x ≡ y) ⊎ GoesOn x y → Begins (components x) (components y)
starts_from x y (inl e) = ([], ap components (sym e) ∙ sym (append-nil (components x)))
starts_from x y (inr g) = (components g.0, ap components g.1 ∙ components_append x g.0)

starts_to : (x y : List ℕ) (rest : List (List ℕ)) → components y ≡ components x ++ rest → (x ≡ y) ⊎ GoesOn x y
starts_to x y [] e =
    inl (sym (joined_components x) ∙ (ap joined (sym (e ∙ append-nil (components x))) ∙ joined_components y))
starts_to x y (d ∷ ds) e =
    inr (
      joined (d ∷ ds),
      sym (joined_components y)
          ∙ (ap joined e
          ∙ (joined_append (components x) (d ∷ ds) (some_component x) (λ z. let w : ◌≡◌ {A = ℕ} 0 1 = cc in omega arith)
          ∙ ap (λ t. t ++ 47 ∷ joined (d ∷ ds)) (joined_components x))),
    )

-- Different names are told apart.
pub not_same : (a b : List ℕ) → (a ≡ b → ⊥) → bytes_eq a b ≡ false
not_same a b n = ⊎_elim (λ t. absurd (n ((bytes_eq-Decides a b).0 t))) (λ f. f) (cases_Bool (bytes_eq a b))

module _ (together : List ℕ → List ℕ → Bool) where
  -- Lists of components: after a common front one ends, or two follow that differ and lie together.
  pub data Met : List (List ℕ) → List (List ℕ) → Type 0 where
    left_ends : {ys : List (List ℕ)} → Met [] ys
    right_ends : {xs : List (List ℕ)} → Met xs []
    differ : {a b : List ℕ} {xs ys : List (List ℕ)} → (a ≡ b → ⊥) → together a b ≡ true → Met (a ∷ xs) (b ∷ ys)
    same : {a : List ℕ} {xs ys : List (List ℕ)} → Met xs ys → Met (a ∷ xs) (a ∷ ys)

  -- The test tells which.
  test_met : (xs ys : List (List ℕ)) → meet_parts together xs ys ≡ true → Met xs ys
  unfolding meet_parts
  test_met [] ys h = left_ends
  test_met (x ∷ xs) [] h = right_ends
  test_met (x ∷ xs) (y ∷ ys) h =
      let d = bytes_eq-Decides x y in
      ⊎_elim
      (λ t. subst (λ z. Met (x ∷ xs) (z ∷ ys)) (d.0 t) (same (test_met xs ys (sym (cond-true _ _ _ t) ∙ h))))
      (λ f. differ (λ e. both_ways _ f (d.1 e)) (sym (cond-false _ _ _ f) ∙ h))
      (cases_Bool (bytes_eq x y))

  pub meet_none : (xs : List (List ℕ)) → meet_parts together xs [] ≡ true
  unfolding meet_parts
  meet_none [] = refl
  meet_none (x ∷ xs) = refl

  met_test : {xs ys : List (List ℕ)} → Met xs ys → meet_parts together xs ys ≡ true
  unfolding meet_parts
  met_test (left_ends {ys}) = refl
  met_test (right_ends {xs}) = meet_none xs
  met_test (differ {a} {b} n t) = rw (not_same a b n) t
  met_test (same {a} m) = rw ((bytes_eq-Decides a a).1 refl) (met_test m)

  -- The two lists have a common front, and then a and b, which differ and lie together.
  pub record Parted (xs ys : List (List ℕ)) : Type 0 where
    pub a : List ℕ
    pub b : List ℕ
    pub front : List (List ℕ)
    pub rest_x : List (List ℕ)
    pub rest_y : List (List ℕ)
    pub of_x : xs ≡ front ++ a ∷ rest_x
    pub of_y : ys ≡ front ++ b ∷ rest_y
    pub apart : a ≡ b → ⊥
    pub lie : together a b ≡ true

  parted_more : {xs ys : List (List ℕ)} (c : List ℕ) → Parted xs ys → Parted (c ∷ xs) (c ∷ ys)
  parted_more c p = record {
    a = p.a;
    b = p.b;
    front = c ∷ p.front;
    rest_x = p.rest_x;
    rest_y = p.rest_y;
    of_x = ap (λ t. c ∷ t) p.of_x;
    of_y = ap (λ t. c ∷ t) p.of_y;
    apart = p.apart;
    lie = p.lie;
  }

  starts_more : (xs ys : List (List ℕ)) (c : List ℕ) → Begins xs ys → Begins (c ∷ xs) (c ∷ ys)
  starts_more xs ys c p = (p.0, ap (λ t. c ∷ t) p.1)

  -- In words: one list begins the other, or they part.
  met_words : {xs ys : List (List ℕ)} → Met xs ys → Begins xs ys ⊎ (Begins ys xs ⊎ Parted xs ys)
  met_words (left_ends {ys}) = inl (ys, refl)
  met_words (right_ends {xs}) = inr (inl (xs, refl))
  met_words (differ {a} {b} {xs} {ys} n t) =
      inr (inr (record { a = a; b = b; front = []; rest_x = xs; rest_y = ys; of_x = refl; of_y = refl; apart = n; lie = t }))
  met_words (same {a} {xs} {ys} m) =
      ⊎_elim (λ p. inl (starts_more xs ys a p)) (⊎_elim (λ p. inr (inl (starts_more ys xs a p))) (λ p. inr (inr (parted_more a p)))) (met_words m)

  met_left : (xs rest : List (List ℕ)) → Met xs (xs ++ rest)
  met_left [] rest = left_ends
  met_left (x ∷ xs) rest = same (met_left xs rest)

  met_right : (ys rest : List (List ℕ)) → Met (ys ++ rest) ys
  met_right [] rest = right_ends
  met_right (y ∷ ys) rest = same (met_right ys rest)

  met_parted : (front : List (List ℕ)) (a b : List ℕ) (u v : List (List ℕ)) → (a ≡ b → ⊥) → together a b ≡ true
      → Met (front ++ a ∷ u) (front ++ b ∷ v)
  met_parted [] a b u v n t = differ n t
  met_parted (c ∷ front) a b u v n t = same (met_parted front a b u v n t)

  -- Names meet exactly where their lists of components do.
  meets_from : (x y : List ℕ) → Met (components x) (components y) → Meets together x y
  meets_from x y m =
      ⊎_elim (λ p. ⊎_elim inl (λ g. inr (inl g)) (starts_to x y p.0 p.1))
      (⊎_elim (λ p. ⊎_elim (λ e. inl (sym e)) (λ g. inr (inr (inl g))) (starts_to y x p.0 p.1))
      (λ p. inr (inr (inr (
        p.a,
        p.b,
        record { front = p.front; rest_x = p.rest_x; rest_y = p.rest_y; of_x = p.of_x; of_y = p.of_y; differ = p.apart },
        p.lie,
      )))))
      (met_words m)

  meets_to : (x y : List ℕ) → Meets together x y → Met (components x) (components y)
  meets_to x y (inl e) = let s = starts_from x y (inl e) in subst (Met (components x)) (sym s.1) (met_left (components x) s.0)
  meets_to x y (inr (inl g)) = let s = starts_from x y (inr g) in subst (Met (components x)) (sym s.1) (met_left (components x) s.0)
  meets_to x y (inr (inr (inl g))) =
      let s = starts_from y x (inr g) in subst (λ t. Met t (components y)) (sym s.1) (met_right (components y) s.0)
  meets_to x y (inr (inr (inr (a, b, f, t)))) =
      subst (λ u. Met u (components y)) (sym f.of_x)
      (subst (λ u. Met (f.front ++ a ∷ f.rest_x) u) (sym f.of_y) (met_parted f.front a b f.rest_x f.rest_y f.differ t))

  -- The test decides whether two names meet.
  pub meet_decides : (x y : List ℕ) → Decides (meet together x y) (Meets together x y)
  unfolding meet
  meet_decides x y = (λ h. meets_from x y (test_met (components x) (components y) h), λ m. met_test (meets_to x y m))

  module _ (symmetric : (a b : List ℕ) → together a b ≡ true → together b a ≡ true) where
    met_turned : {xs ys : List (List ℕ)} → Met xs ys → Met ys xs
    met_turned left_ends = right_ends
    met_turned right_ends = left_ends
    met_turned (differ {a} {b} n t) = differ (λ e. n (sym e)) (symmetric a b t)
    met_turned (same m) = same (met_turned m)

    -- Meeting is symmetric.
    pub meets_turned : (x y : List ℕ) → Meets together x y → Meets together y x
    meets_turned x y m = meets_from y x (met_turned (meets_to x y m))

    -- So the test gives the same whichever name comes first.
    pub meet_turned : (x y : List ℕ) → meet together x y ≡ meet together y x
    meet_turned x y =
        let there = meet_decides x y in
        let back = meet_decides y x in
        go (meet together x y) (meet together y x) (λ t. back.1 (meets_turned x y (there.0 t))) (λ t. there.1 (meets_turned y x (back.0 t)))
      where
        go : (a b : Bool) → (a ≡ true → b ≡ true) → (b ≡ true → a ≡ true) → a ≡ b
        go true b f g = sym (f refl)
        go false true f g = g refl
        go false false f g = refl

  module _ (key : List ℕ → List ℕ) (law : (a b : List ℕ) → key a ≡ key b → together a b ≡ true) where
    met_keys : (xs ys rest : List (List ℕ)) → map key ys ≡ map key xs ++ rest → Met xs ys
    met_keys [] ys rest e = left_ends
    met_keys (x ∷ xs) [] rest e = right_ends
    met_keys (x ∷ xs) (y ∷ ys) rest e =
        let same_key : key y ≡ key x = cc in
        let more : map key ys ≡ map key xs ++ rest = cc in
        ⊎_elim
        (λ t. subst (λ z. Met (x ∷ xs) (z ∷ ys)) ((bytes_eq-Decides x y).0 t) (same (met_keys xs ys rest more)))
        (λ f. differ (λ e. both_ways _ f ((bytes_eq-Decides x y).1 e)) (law x y (sym same_key)))
        (cases_Bool (bytes_eq x y))

    -- Where the list of keys of x begins that of y, the names meet.
    pub starts_meets : (x y : List ℕ) → Begins (keys_under key x) (keys_under key y) → Meets together x y
    starts_meets x y s = meets_from x y (met_keys (components x) (components y) s.0 s.1)
