-- Only one list is the components of a name.
use Rattle.std.proofs.Common.{◌≡◌, ℕ, List, [], ◌∷◌, ◌++◌, length, arith, sym, refl, ap, ◌∙◌, subst}
use Rattle.std.specs.List.{AllByRecursion, Contains}
use Rattle.std.proofs.lemmas.Bool.{ne_eqb}
use Rattle.std.proofs.lemmas.List.Elements.{recursion_from_All}
use Rattle.tag.specs.Components.{AreComponents, components, joined, onto}
use Rattle.tag.proofs.Members.{Among, all_from_each, contains_among, each_from_all}

-- No byte is a slash.
abbrev Free : List ℕ → Type 0
Free c = AllByRecursion (λ b. b ≡ 47 → ⊥) c

-- A byte string with no slash is its only component.
free_alone : (c : List ℕ) → Free c → components c ≡ c ∷ []
unfolding components
free_alone [] h = refl
free_alone (b ∷ c) h = rw (ne_eqb b 47 h.0) (ap (onto b) (free_alone c h.1))

-- What precedes the first slash is the first component.
free_first : (c s : List ℕ) → Free c → components (c ++ 47 ∷ s) ≡ c ∷ components s
unfolding components
free_first [] s h = refl
free_first (b ∷ c) s h = rw (ne_eqb b 47 h.0) (ap (onto b) (free_first c s h.1))

-- Byte strings with no slash are the components of what they make when they are joined.
components_joined : (cs : List (List ℕ)) → (cs ≡ [] → ⊥) → AllByRecursion Free cs → components (joined cs) ≡ cs
unfolding joined
components_joined [] n h = absurd (n refl)
components_joined (c ∷ []) n h = free_alone c h.0
components_joined (c ∷ (d ∷ cs)) n h =
    free_first c (joined (d ∷ cs)) h.0
    ∙ ap (λ l. c ∷ l) (components_joined (d ∷ cs) (λ e. absurd (omega (arith, ap length e))) h.1)

-- Only one list is the components of s.
pub only_components : (s : List ℕ) (cs : List (List ℕ)) → AreComponents s cs → cs ≡ components s
only_components s cs h =
    sym (components_joined cs h.some each) ∙ ap components h.joins
  where
    free : (c : List ℕ) → (Contains c 47 → ⊥) → Free c
    free c n = all_from_each (λ b. b ≡ 47 → ⊥) c (λ b m e. n (contains_among c 47 (subst (λ x. Among x c) e m)))

    each : AllByRecursion Free cs
    each = all_from_each Free cs (λ c m. free c (all c m))
      where
        all : (c : List ℕ) → Among c cs → Contains c 47 → ⊥
        all c m = each_from_all (λ d. Contains d 47 → ⊥) cs (recursion_from_All (λ d. Contains d 47 → ⊥) cs h.slash_free) c m
