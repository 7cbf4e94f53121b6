-- The lines of a text are what they are meant to be.
use Rattle.std.proofs.Common.{◌≡◌, ℕ, zero, suc, ◌<◌, All, Contains, List, [], ◌∷◌, length, drop, sym, refl, ap, subst, inl, inr, ⊎_elim, arith}
use Rattle.std.specs.Prelude.{slice_index}
use Rattle.std.proofs.lemmas.List.{length-append}
use Rattle.std.proofs.lemmas.Bool.{cases_eq, eq-eqb, ne_eqb}
use Rattle.tag.specs.Components.{onto}
use Rattle.tag.specs.Fronts.{Ends}
use Rattle.tag.proofs.Members.{Among, among_contains}
use Rattle.lines.specs.Lines.{AreLines, Joins, lines}

-- A byte in front of a text with bytes leaves its end as it is.
no_end : (b : ℕ) (s : List ℕ) → 0 < length s → (Ends (10 ∷ []) s → ⊥) → Ends (10 ∷ []) (b ∷ s) → ⊥
no_end b s l n ([], e) = let h = ap length e in omega arith
no_end b s l n (x ∷ f, e) = n (f, ap (drop 1) e)

at_end : (s : List ℕ) (ls : List (List ℕ)) → Joins s ls → Joins (10 ∷ s) ([] ∷ ls)
at_end s ls (inl e) = inl (ap (λ x. 10 ∷ x) e)
at_end s ls (inr h) = inr (ap (λ x. 10 ∷ x) h.0, omega arith, no_end 10 s h.1 h.2)

alone : (b : ℕ) → (b ≡ 10 → ⊥) → Ends (10 ∷ []) (b ∷ []) → ⊥
alone b n ([], e) = n (ap (λ l. slice_index l 0) e)
alone b n (x ∷ f, e) = let h = ap length (ap (drop 1) e) in let k = length-append f (10 ∷ []) in omega arith

onto_joins : (b d : ℕ) (s : List ℕ) (ls : List (List ℕ)) → Joins (d ∷ s) ls → Joins (b ∷ (d ∷ s)) (onto b ls)
onto_joins b d s [] (inl e) = let h = ap length e in absurd (omega arith)
onto_joins b d s [] (inr h) = let k = ap length h.0 in absurd (omega arith)
onto_joins b d s (l ∷ ls) (inl e) = inl (ap (λ x. b ∷ x) e)
onto_joins b d s (l ∷ ls) (inr h) = inr (ap (λ x. b ∷ x) h.0, omega arith, no_end b (d ∷ s) (omega arith) h.2)

joins : (s : List ℕ) → Joins s (lines s)
unfolding lines
joins [] = inl refl
joins (b ∷ []) =
    ⊎_elim
    (λ e. rw (eq-eqb b 10 e) (subst (λ x. Joins (x ∷ []) ([] ∷ [])) (sym e) (at_end [] [] (inl refl))))
    (λ n. rw (ne_eqb b 10 n) (inr (refl, omega arith, alone b n)))
    (cases_eq b 10)
joins (b ∷ (d ∷ s)) =
    let r = joins (d ∷ s) in
    ⊎_elim
    (λ e. rw (eq-eqb b 10 e) (subst (λ x. Joins (x ∷ (d ∷ s)) ([] ∷ lines (d ∷ s))) (sym e) (at_end (d ∷ s) (lines (d ∷ s)) r)))
    (λ n. rw (ne_eqb b 10 n) (onto_joins b d s (lines (d ∷ s)) r))
    (cases_eq b 10)

-- None holds a newline.
abbrev Free : List (List ℕ) → Type 0
Free ls = (l : List ℕ) → Among l ls → Among 10 l → ⊥

free_end : (ls : List (List ℕ)) → Free ls → Free ([] ∷ ls)
free_end ls f l (inl e) h = subst (Among 10) e h
free_end ls f l (inr m) h = f l m h

free_onto : (b : ℕ) → (b ≡ 10 → ⊥) → (ls : List (List ℕ)) → Free ls → Free (onto b ls)
free_onto b n [] f l (inl e) h = ⊎_elim (λ x. n (sym x)) (λ z. z) (subst (Among 10) e h)
free_onto b n [] f l (inr m) h = m
free_onto b n (d ∷ ds) f l (inl e) h = ⊎_elim (λ x. n (sym x)) (f d (inl refl)) (subst (Among 10) e h)
free_onto b n (d ∷ ds) f l (inr m) h = f l (inr m) h

free : (s : List ℕ) → Free (lines s)
unfolding lines
free [] = λ l m h. m
free (b ∷ s) =
    let r = free s in
    ⊎_elim
    (λ e. rw (eq-eqb b 10 e) (free_end (lines s) r))
    (λ n. rw (ne_eqb b 10 n) (free_onto b n (lines s) r))
    (cases_eq b 10)

newline_free : (ls : List (List ℕ)) → Free ls → All (λ l. ¬ Contains l 10) ls
newline_free [] f k d less = absurd (omega arith)
newline_free (l ∷ ls) f zero d less = λ c. f l (inl refl) (among_contains l 10 c)
newline_free (l ∷ ls) f (suc k) d less = newline_free ls (λ m h. f m (inr h)) k d (omega arith)

pub are_lines : (s : List ℕ) → AreLines s (lines s)
are_lines s = record { joins = joins s; newline_free = newline_free (lines s) (free s) }
