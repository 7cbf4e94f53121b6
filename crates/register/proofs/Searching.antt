-- A search from the left for the first entry that passes a test: what is found so far, from the place i on.
use Rattle.std.proofs.Common.{◌≡◌, ℕ, suc, ◌+◌, Bool, true, false, List, [], ◌∷◌, drop, Some, None, Option, sym, refl, ap, ◌∙◌, arith}
use Rattle.std.specs.Option.{option_map}
use Rattle.std.proofs.lemmas.Bool.{cond-false, cond-true}
use Rattle.register_model.specs.Entries.{Entry, first_place}

-- A place counted from i on, and from the next place on.
pub counted_on : (i : ℕ) (o : Option ℕ) → option_map (λ k. i + k) (option_map suc o) ≡ option_map (λ k. i + 1 + k) o
counted_on i None = refl
counted_on i (Some k) = let e : i + suc k ≡ i + 1 + k = omega arith in ap Some e

-- No entry before the place i passes the test.
abbrev pub From : {M : Type 0} → (Entry M → Bool) → List (Entry M) → ℕ → Type 0
From test es i = option_map (λ k. i + k) (first_place test (drop i es)) ≡ first_place test es

module _ {M : Type 0} (test : Entry M → Bool) (es : List (Entry M)) where
  none_before : (o : Option ℕ) → option_map (λ k. 0 + k) o ≡ o
  none_before None = refl
  none_before (Some k) = let e : 0 + k ≡ k = omega arith in ap Some e

  -- The search begins.
  pub from_start : From test es 0
  from_start = none_before (first_place test es)

  module _ (i : ℕ) (from : From test es i) where
    -- The entry at i passes.
    pub found_here : (e : Entry M) → drop i es ≡ e ∷ drop (i + 1) es → test e ≡ true → Some i ≡ first_place test es
    unfolding first_place
    found_here e d t =
        let z : i ≡ i + 0 = omega arith in
        ap Some z ∙ (sym (ap (λ l. option_map (λ k. i + k) (first_place test l)) d ∙ ap (option_map (λ k. i + k)) (cond-true _ _ _ t)) ∙ from)

    -- It does not, and the search goes on.
    pub not_here : (e : Entry M) → drop i es ≡ e ∷ drop (i + 1) es → test e ≡ false → From test es (i + 1)
    unfolding first_place
    not_here e d f =
        sym (ap (λ l. option_map (λ k. i + k) (first_place test l)) d
        ∙ (ap (option_map (λ k. i + k)) (cond-false _ _ _ f) ∙ counted_on i (first_place test (drop (i + 1) es))))
        ∙ from

    -- There is no entry left.
    pub found_nowhere : drop i es ≡ [] → None ≡ first_place test es
    unfolding first_place
    found_nowhere d = sym (ap (λ l. option_map (λ k. i + k) (first_place test l)) d) ∙ from
