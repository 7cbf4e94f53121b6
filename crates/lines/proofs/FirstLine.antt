-- The first line of a text.
use Rattle.std.proofs.Common.{◌≡◌, ℕ, zero, suc, ◌+◌, ◌<◌, ◌≤◌, Bool, true, false, cond, not, eqb, List, [], ◌∷◌, length, get_or, take, drop, Some, None, Option, sym, refl, ap, subst, add-one, arith}
use Rattle.std.specs.List.{position, position_or_len, before_first, after_first, prefix_len}
use Rattle.std.proofs.lemmas.List.{take_all, drop_all}
use Rattle.std.proofs.lemmas.List.Sums.{prefix_len_passes}
use Rattle.std.proofs.lemmas.Grind.{common_steps}
use Rattle.std.proofs.lemmas.Bool.{eq-eqb, eqb-true, eqb-false, ne_eqb}
use Rattle.std.proofs.lemmas.List.Quantifiers.{position-Some}
use Rattle.std.specs.Option.{option_map, unwrap_or}
use Rattle.std.proofs.lemmas.Option.{none-some}
use Rattle.tag.specs.Components.{onto}
use Rattle.tag.specs.Splits.{split_once}
use Rattle.lines.specs.Lines.{lines}

-- It ends before the first byte 10.
ended : (n : ℕ) (s : List ℕ) → n < length s → ((k : ℕ) → k < n → get_or s k 0 ≡ 10 → ⊥) → get_or s n 0 ≡ 10
    → lines s ≡ take n s ∷ lines (drop (suc n) s)
unfolding lines
ended n [] l f e = absurd (omega arith)
ended zero (b ∷ s) l f e = rw (eq-eqb b 10 e)
ended (suc n) (b ∷ s) l f e =
    rw (ne_eqb b 10 (f 0 (omega arith))) (ap (onto b) (ended n s (omega arith) (λ k m. f (suc k) (omega arith)) e))

-- With no byte 10, it is the only one.
only_line : (s : List ℕ) → 0 < length s → ((k : ℕ) → k < length s → get_or s k 0 ≡ 10 → ⊥) → lines s ≡ s ∷ []
unfolding lines
only_line [] l f = absurd (omega arith)
only_line (b ∷ []) l f = rw (ne_eqb b 10 (f 0 (omega arith)))
only_line (b ∷ (d ∷ s)) l f =
    rw (ne_eqb b 10 (f 0 (omega arith))) (ap (onto b) (only_line (d ∷ s) (omega arith) (λ k m. f (suc k) (omega arith))))

-- The first byte 10 of a text has what precedes it as the first line, and what follows it has the others.
end_at : (s : List ℕ) (n : ℕ) → position (λ b. eqb b 10) s ≡ Some n → lines s ≡ take n s ∷ lines (drop (n + 1) s)
end_at s n e =
    let p = position-Some (λ b. eqb b 10) s n 0 e in
    rw add-one (ended n s p.0 (λ k l q. eqb-false _ _ (p.2 k l) q) (eqb-true _ _ p.1))

-- Where a text is split at its first byte 10, its first line stands before that byte, and the others are those of what follows.
pub lines-split : (s : List ℕ) (p : List ℕ × List ℕ) → split_once 10 s ≡ Some p → lines s ≡ p.0 ∷ lines p.1
lines-split s p e = parted (position (λ b. eqb b 10) s) refl e
  where
    parted : (o : Option ℕ) → position (λ b. eqb b 10) s ≡ o
        → option_map {U = List ℕ × List ℕ} (λ i. (take i s, drop (i + 1) s)) o ≡ Some p → lines s ≡ p.0 ∷ lines p.1
    parted None q r = absurd (none-some _ r)
    parted (Some n) q r = subst (λ t. lines s ≡ t.0 ∷ lines t.1) (ap (λ o. unwrap_or o p) r) (end_at s n q)

-- A text with bytes that is not split has no byte 10, so it is its only line.
pub lines-unsplit : (s : List ℕ) → 0 < length s → split_once 10 s ≡ None → lines s ≡ s ∷ []
lines-unsplit s some e = unsplit (position (λ b. eqb b 10) s) refl e
  where
    unsplit : (o : Option ℕ) → position (λ b. eqb b 10) s ≡ o
        → option_map {U = List ℕ × List ℕ} (λ i. (take i s, drop (i + 1) s)) o ≡ None → lines s ≡ s ∷ []
    unsplit (Some n) q r = absurd (none-some _ (sym r))
    unsplit None q r = only_line s some (λ k l t.
        let in_range : k < prefix_len (λ b. not (eqb b 10)) s = grind (arith, common_steps) in
        let other = prefix_len_passes (λ b. not (eqb b 10)) s k 0 in_range in
        let end = eq-eqb _ 10 t in
        grind arith)

-- What a split at place n gives, where that place is in the text (t).
parts_at : (s : List ℕ) (p : List ℕ × List ℕ) (n : ℕ) (t : Bool) → option_map {U = List ℕ × List ℕ} (λ i. (take i s, drop (i + 1) s)) (cond t (Some n) None) ≡ Some p
    → (p.0 ≡ take n s) × (p.1 ≡ drop (n + 1) s)
parts_at s p n true e = let q = ap (λ o. unwrap_or o p) e in (sym (ap (λ t. t.0) q), sym (ap (λ t. t.1) q))
parts_at s p n false e = absurd (none-some _ e)

-- Where a text is split at its first byte 10, the parts are what stands before and after that byte.
pub parts-split : (s : List ℕ) (p : List ℕ × List ℕ) → split_once 10 s ≡ Some p
    → (p.0 ≡ before_first (λ b. eqb b 10) s) × (p.1 ≡ after_first (λ b. eqb b 10) s)
parts-split s p e = parts_at s p (position_or_len (λ b. eqb b 10) s) _ e

-- A text that is not split stands before, and nothing after.
pub parts-unsplit : (s : List ℕ) → split_once 10 s ≡ None
    → (s ≡ before_first (λ b. eqb b 10) s) × ([] ≡ after_first (λ b. eqb b 10) s)
parts-unsplit s e =
    let far : length s ≤ position_or_len (λ b. eqb b 10) s = grind (arith, common_steps) in
    (sym (take_all _ s far), sym (drop_all _ s (omega arith)))
