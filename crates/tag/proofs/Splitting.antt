-- The first component of a byte string, which ends before the first slash.
use Rattle.std.proofs.Common.{◌≡◌, ℕ, zero, suc, ◌+◌, ◌<◌, not, eqb, List, [], ◌∷◌, length, get_or, take, drop, Some, None, Option, sym, refl, ap, subst, add-one, arith}
use Rattle.std.specs.Prelude.{⊤}
use Rattle.std.specs.Iterator.{MakesProgress, item_count}
use Rattle.std.specs.List.{position, prefix_len}
use Rattle.std.proofs.lemmas.List.Sums.{prefix_len_passes}
use Rattle.std.proofs.lemmas.Grind.{common_steps}
use Rattle.std.proofs.lemmas.Bool.{eq-eqb, eqb-true, eqb-false, ne_eqb}
use Rattle.std.proofs.lemmas.List.Quantifiers.{position-Some}
use Rattle.std.specs.Option.{option_map, unwrap_or}
use Rattle.std.proofs.lemmas.Option.{none-some}
use Rattle.tag.specs.Components.{components, onto}
use Rattle.tag.specs.Splits.{split_once}

-- It ends before the first slash.
pub before_slash : (n : ℕ) (s : List ℕ) → n < length s → ((k : ℕ) → k < n → get_or s k 0 ≡ 47 → ⊥) → get_or s n 0 ≡ 47
    → components s ≡ take n s ∷ components (drop (suc n) s)
unfolding components
before_slash n [] l f e = absurd (omega arith)
before_slash zero (b ∷ s) l f e = rw (eq-eqb b 47 e)
before_slash (suc n) (b ∷ s) l f e =
    rw (ne_eqb b 47 (f 0 (omega arith)))
    (ap (onto b) (before_slash n s (omega arith) (λ k m. f (suc k) (omega arith)) e))

-- With no slash, it is the only one.
pub no_slash : (s : List ℕ) → ((k : ℕ) → k < length s → get_or s k 0 ≡ 47 → ⊥) → components s ≡ s ∷ []
unfolding components
no_slash [] f = refl
no_slash (b ∷ s) f =
    rw (ne_eqb b 47 (f 0 (omega arith))) (ap (onto b) (no_slash s (λ k m. f (suc k) (omega arith))))

-- The first slash of a byte string has what precedes it as the first component, and what follows it has the others.
slash_at : (s : List ℕ) (n : ℕ) → position (λ b. eqb b 47) s ≡ Some n → components s ≡ take n s ∷ components (drop (n + 1) s)
slash_at s n e =
    let p = position-Some (λ b. eqb b 47) s n 0 e in
    rw add-one (before_slash n s p.0 (λ k l q. eqb-false _ _ (p.2 k l) q) (eqb-true _ _ p.1))

-- Where a byte string is split at its first slash, its first component precedes it, and the others are those of what follows.
pub components-split : (s : List ℕ) (p : List ℕ × List ℕ) → split_once 47 s ≡ Some p → components s ≡ p.0 ∷ components p.1
components-split s p e = split (position (λ b. eqb b 47) s) refl e
  where
    split : (o : Option ℕ) → position (λ b. eqb b 47) s ≡ o → option_map {U = List ℕ × List ℕ} (λ i. (take i s, drop (i + 1) s)) o ≡ Some p
        → components s ≡ p.0 ∷ components p.1
    split None q r = absurd (none-some _ r)
    split (Some n) q r = subst (λ t. components s ≡ t.0 ∷ components t.1) (ap (λ o. unwrap_or o p) r) (slash_at s n q)

-- A byte string that is not split has no slash, so it is its only component.
pub components-unsplit : (s : List ℕ) → split_once 47 s ≡ None → components s ≡ s ∷ []
components-unsplit s e = whole (position (λ b. eqb b 47) s) refl e
  where
    whole : (o : Option ℕ) → position (λ b. eqb b 47) s ≡ o → option_map {U = List ℕ × List ℕ} (λ i. (take i s, drop (i + 1) s)) o ≡ None → components s ≡ s ∷ []
    whole (Some n) q r = absurd (none-some _ (sym r))
    whole None q r = no_slash s (λ k l t.
        let before : k < prefix_len (λ b. not (eqb b 47)) s = grind (arith, common_steps) in
        let other = prefix_len_passes (λ b. not (eqb b 47)) s k 0 before in
        let slash = eq-eqb _ 47 t in
        grind arith)

-- An iterator that gives the first of what is left, and leaves the others, comes nearer to its end.
pub nearer_end : {S A B : Type 0} (view : A → B) (rest : S → List B) (s : S) (x : A) (t : S) → rest s ≡ view x ∷ rest t
    → MakesProgress {A = A} (λ _. ⊤) (item_count rest) s (Some x) t
nearer_end view rest s x t e = let h = ap length e in record { on = λ _. (tt, tt, omega arith); keeps = tt; rests = λ _. tt }
