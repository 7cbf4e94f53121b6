-- The verdicts on the components of a name, from the left.
use Rattle.std.proofs.Common.{◌≡◌, ℕ, ◌+◌, ◌-◌, ◌≤◌, ◌==◌, ◌⊎◌, List, [], ◌∷◌, length, Some, None, Option, inl, inr, sym, refl, ap, ◌∙◌, arith}
use Rattle.std.proofs.lemmas.Bool.{cases_Bool}
use denote.Ref.{Bor}
use Rattle.std.specs.Iterator.{Drains, YieldsFirstRef}
use Rattle.std.proofs.lemmas.Iterator.Consumers.{YieldsList-from_first, count_from_yields_List}
use Rattle.tag.specs.Components.{components, onto}
use Rattle.tag.specs.ComponentsLeft.{components_left}
use Rattle.tag.specs.declared.components.Components.{Components}
use Rattle.meetings.proofs.Meetings.{some_component}
use Rattle.protections.specs.declared.rules.Mode.{Mode}
use Rattle.register_model.specs.Calls.{Fault, first_verdict, or_else}

-- A verdict decides, and none leaves it to the next.
verdict_first : (i : ℕ) (v : Option ℕ) (f : Fault) (next : Option Fault) → Some f ≡ or_else v i None → Some f ≡ or_else v i next
verdict_first i (Some n) f next e = e
verdict_first i None f next e = cc

verdict_none : (i : ℕ) (v : Option ℕ) (next : Option Fault) → None ≡ or_else v i None → next ≡ or_else v i next
verdict_none i (Some n) next e = cc
verdict_none i None next e = refl

-- The mode that the component at the index i is asked with: the given one at the last index, and else none.
abbrev pub Own : Option Mode → ℕ → ℕ → Option Mode → Type 0
Own mode last i own = ((i ≡ last) × (own ≡ mode)) ⊎ ((i ≡ last → ⊥) × (own ≡ None))

module _ (verdict : List ℕ → Option Mode → Option ℕ) (mode : Option Mode) (last : ℕ) where
  module _ (i : ℕ) (c : List ℕ) (own : Option Mode) (of : Own mode last i own) where
    decides : (rest : List (List ℕ)) → i + length rest ≡ last
        → first_verdict verdict mode i (c ∷ rest) ≡ or_else (verdict c own) i (first_verdict verdict mode (i + 1) rest)
    unfolding first_verdict
    decides rest e = go rest e of
      where
        go : (rest : List (List ℕ)) → i + length rest ≡ last → Own mode last i own
            → first_verdict verdict mode i (c ∷ rest) ≡ or_else (verdict c own) i (first_verdict verdict mode (i + 1) rest)
        go [] e (inl h) = rw h.1
        go [] e (inr h) = absurd (h.0 (omega arith))
        go (d ∷ rest) e (inl h) = absurd (omega (arith, h.0))
        go (d ∷ rest) e (inr h) = rw h.1

  -- One turn: of the components ps, the first of which has the index i, c is the first and qs are the others.
  module _ (ps qs : List (List ℕ)) (i j k n : ℕ) (c : List ℕ) (own : Option Mode) (parts : ps ≡ c ∷ qs) (here : i ≡ j) (next : k ≡ j + 1)
      (whole : j + length ps ≡ n) (end : last ≡ n - 1) (of : Own mode last i own) where
    split_off : first_verdict verdict mode j ps ≡ or_else (verdict c own) i (first_verdict verdict mode k qs)
    split_off =
        rw (parts, ← here)
        (decides i c own of qs (omega (arith, ap length parts)) ∙ ap (λ z. or_else (verdict c own) i (first_verdict verdict mode z qs)) (omega arith))

    -- Its verdict decides.
    pub verdict_decides : (f : Fault) → Some f ≡ or_else (verdict c own) i None → Some f ≡ first_verdict verdict mode j ps
    verdict_decides f s = verdict_first i (verdict c own) f _ s ∙ sym split_off

    -- Where it has none, the others decide.
    pub others_decide : None ≡ or_else (verdict c own) i None → first_verdict verdict mode k qs ≡ first_verdict verdict mode j ps
    others_decide s = verdict_none i (verdict c own) _ s ∙ sym split_off

-- A name has at most one component more than it has bytes.
pub length-components : (s : List ℕ) → length (components s) ≤ length s + 1
unfolding components
length-components [] = omega arith
length-components (b ∷ s) =
    let more = length-components s in
    elim (cases_Bool (b == 47)) [
      | inl t ↦ rw t (omega arith)
      | inr f ↦ rw f (let same = length-onto b (components s) (some_component s) in omega arith)
    ]
  where
    length-onto : (b : ℕ) (cs : List (List ℕ)) → (cs ≡ [] → ⊥) → length (onto b cs) ≡ length cs
    length-onto b [] n = absurd (n refl)
    length-onto b (c ∷ cs) n = refl

-- How many components a name s has, as an iterator over them counts them.
pub parts_counted : (s : List ℕ) {t : List ℕ} {it : Components} (n : ℕ) → components_left it ≡ components t → t ≡ s
    → ((xs : List (Bor (List ℕ))) × Drains (YieldsFirstRef components_left) it xs × (n ≡ length xs)) → n ≡ length (components s)
parts_counted s {t} {it} n e q ran = count_from_yields_List it n ran (YieldsList-from_first (λ x. x.now) components_left (components s) (e ∙ ap components q))
