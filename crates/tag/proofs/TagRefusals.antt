-- The answer for a tag name is that of the first rule that applies to it.
use Rattle.std.proofs.Common.{◌≡◌, ℕ, ◌+◌, ◌<◌, Bool, true, cond, not, ◌&&◌, ◌⊎◌, eqb, List, [], ◌∷◌, ◌++◌, length, get_or, Decides, sym, refl, ap, ◌∙◌, subst, inl, inr, ⊎_elim, arith}
use Rattle.std.proofs.lemmas.List.{append-nil, append_assoc, length-append, length_push}
use Rattle.std.proofs.lemmas.Bool.{and_from, and_parts, cond_both, eq-eqb, eqb-true, false≢true, ne_eqb, not_from_false}
use Rattle.std.proofs.lemmas.Bool.Decides.{Decides-like, nat_tests}
use Rattle.tag.specs.Answers.{Answer, Value, IsFirst, first_refusal}
use Rattle.tag.specs.Answers.Answer.{allowed, refused}
use Rattle.tag.specs.Answers.Value.{nothing, byte}
use Rattle.tag.specs.Bytes.{dot_lock, ends_in_lock, invalid, last_byte}
use Rattle.tag.specs.Fronts.{Begins, Ends}
use Rattle.tag.specs.Names.{closing, fault, fault_after, opening, reads, tag_name}
use Rattle.tag.specs.Refusals.{Applies, AppliesAt, IsForbidden}
use Rattle.tag.specs.Refusals.AppliesAt.{forbidden, slash_after_slash, dot_after_dot, slash_after_lock, brace_after_at, asterisk, dot_after_slash}
use Rattle.tag.specs.Refusals.Applies.{no_byte, slash_last, slash_first, at_byte, lock_last, dot_first, dot_last}
use Rattle.tag.proofs.FirstRules.{Before, Either, Never, One, OnlyFirst, Rule, first_both, first_like, never_first, one_before, one_first}
use Rattle.tag.proofs.Locks.{lock_decides}
use Rattle.tag.proofs.Members.{Among, among_contains, contains_among}
use Rattle.tag.proofs.Reading.{last_byte_push}
use Rattle.tag.proofs.Rules.{ends_from_last}

-- The bytes that no name may hold, beside the control characters.
abbrev others : List ℕ
others = 127 ∷ (32 ∷ (92 ∷ (94 ∷ (58 ∷ (91 ∷ (63 ∷ (126 ∷ [])))))))

invalid_among : (b : ℕ) → Decides (invalid b) ((b < 32) ⊎ Among b others)
invalid_among b = (λ e. grind (arith, nat_tests), λ h. grind (arith, nat_tests))

pub forbidden_decides : (b : ℕ) → Decides (invalid b) (IsForbidden b)
forbidden_decides b =
    Decides-like (invalid b) (⊎_elim inl (λ m. inr (contains_among others b m))) (⊎_elim inl (λ m. inr (among_contains others b m)))
    (invalid_among b)

-- A list ends with a byte other than 0 exactly where that is its last byte.
pub ends_with_last : (x : ℕ) (s : List ℕ) → 0 < x → last_byte s ≡ x → Ends (x ∷ []) s
ends_with_last x s h e =
    ends_from_last x s (λ none. let z : 0 ≡ x = sym (ap last_byte none) ∙ e in omega arith) e

pub last_from_ends : (x : ℕ) (s : List ℕ) → Ends (x ∷ []) s → last_byte s ≡ x
last_from_ends x s e = ap last_byte e.1 ∙ last_byte_push e.0 x

-- A slash that follows no slash, after .lock
lock_fault : (a : ℕ) (t : Bool) → (a ≡ 47 → ⊥) → t ≡ true
    → first_refusal (fault_after a 47) (cond (true && t) (refused 5 nothing) allowed) ≡ refused 5 nothing
lock_fault a t n e = rw (ne_eqb a 47 n, e) refl

-- What a rule for a byte refuses, the definition refuses.
fault_refuses : (front : List ℕ) {b n : ℕ} {v : Value} → AppliesAt front b n v → fault front b ≡ refused n v
fault_refuses front (forbidden {b} h) = rw ((forbidden_decides b).1 h) refl
fault_refuses front (slash_after_slash e) = rw (last_from_ends 47 front e) refl
fault_refuses front (dot_after_dot e) = rw (last_from_ends 46 front e) refl
fault_refuses front (slash_after_lock e) =
    let t = (lock_decides front).1 e in
    let k : last_byte front ≡ 107 = grind (arith, nat_tests) in
    lock_fault (last_byte front) (ends_in_lock front) (λ q. omega arith) t
fault_refuses front (brace_after_at e) = rw (last_from_ends 64 front e) refl
fault_refuses front asterisk = refl
fault_refuses front (dot_after_slash e) = rw (last_from_ends 47 front e) refl

-- What is right as the answer for a byte: a rule for it refuses so, or none applies.
abbrev Right : List ℕ → ℕ → Answer Value → Type 0
Right front b allowed = (n : ℕ) (v : Value) → AppliesAt front b n v → ⊥
Right front b (refused n v) = AppliesAt front b n v

-- A refusal does not allow.
never_allowed : (n : ℕ) (v : Value) → allowed ≡ refused n v → ⊥
never_allowed n v e = let z : ◌≡◌ {A = ℕ} 0 1 = cc in omega arith

module _ (front : List ℕ) (b : ℕ) where
  -- The answer is right where it is that of the definition.
  abbrev Made : Answer Value → Type 0
  Made x = x ≡ fault front b → Right front b x

  -- Where no test holds, none applies.
  made_allowed : Made allowed
  made_allowed e n v r = never_allowed n v (e ∙ fault_refuses front r)

  -- The last test: a slash after .lock
  abbrev Last : Answer Value → Type 0
  Last x = Made (first_refusal x (cond (eqb b 47 && ends_in_lock front) (refused 5 nothing) allowed))

  made_last : Last allowed
  made_last =
      cond_both (eqb b 47 && ends_in_lock front) (refused 5 nothing) allowed Made
      (λ t _. let p = and_parts (eqb b 47) _ t in
      subst (λ x. AppliesAt front x 5 nothing) (sym (eqb-true b 47 p.0)) (slash_after_lock ((lock_decides front).0 p.1)))
      (λ _. made_allowed)

  -- A test of the byte and the one before it.
  made_test : (x a n : ℕ) (z : Answer Value) → 0 < a → (Ends (a ∷ []) front → AppliesAt front x n nothing) → Last z
      → Last (cond (eqb b x && eqb (last_byte front) a) (refused n nothing) z)
  made_test x a n z h rule rest =
      cond_both (eqb b x && eqb (last_byte front) a) (refused n nothing) z Last
      (λ t _. let p = and_parts (eqb b x) _ t in
      subst (λ y. AppliesAt front y n nothing) (sym (eqb-true b x p.0))
      (rule (ends_with_last a front h (eqb-true (last_byte front) a p.1))))
      (λ _. rest)

  -- The definition refuses by a rule, or none applies.
  fault_right : Right front b (fault front b)
  fault_right =
      cond_both (invalid b) (refused 1 (byte b)) _ Last
      (λ t _. forbidden ((forbidden_decides b).0 t))
      (λ _. cond_both (eqb b 42) (refused 7 nothing) _ Last
      (λ t _. subst (λ y. AppliesAt front y 7 nothing) (sym (eqb-true b 42 t)) asterisk)
      (λ _. made_test 46 46 4 _ (omega arith) dot_after_dot
      (made_test 46 47 8 _ (omega arith) dot_after_slash
      (made_test 123 64 6 _ (omega arith) brace_after_at
      (made_test 47 47 3 allowed (omega arith) slash_after_slash made_last)))))
      refl

-- The rules for one byte, at its place.
abbrev AtByte : List ℕ → ℕ → Rule Value
AtByte front b p n v = (p ≡ 3 + length front) × AppliesAt front b n v

-- The answer for one byte is that of the first rule for it.
fault_first : (front : List ℕ) (b : ℕ) → OnlyFirst (AtByte front b) (fault front b)
fault_first front b = first (fault front b) refl (fault_right front b)
  where
    first : (x : Answer Value) → x ≡ fault front b → Right front b x → OnlyFirst (AtByte front b) x
    first allowed e h = (λ p n v r. h n v r.1, only)
      where
        only : (y : Answer Value) → IsFirst (AtByte front b) y → y ≡ allowed
        only allowed k = refl
        only (refused m w) k = absurd (h m w k.1.1)
    first (refused n v) e h = ((3 + length front, (refl, h), λ q m w l r. let z = r.0 in omega arith), only)
      where
        only : (y : Answer Value) → IsFirst (AtByte front b) y → y ≡ refused n v
        only allowed k = absurd (k (3 + length front) n v (refl, h))
        only (refused m w) k = sym (e ∙ fault_refuses front k.1.1)

-- The rules for the bytes `rest` that stand after the bytes `front`.
abbrev InBytes : List ℕ → List ℕ → Rule Value
InBytes front rest p n v =
    (f r : List ℕ) × (b : ℕ) × (rest ≡ f ++ b ∷ r) × (p ≡ 3 + length (front ++ f)) × AppliesAt (front ++ f) b n v

-- The answer of the reading is that of the first rule for a byte.
reads_first : (front rest : List ℕ) → OnlyFirst (InBytes front rest) (reads front rest)
unfolding reads
reads_first front [] =
    first_like Never (InBytes front []) (λ p n v r. absurd r) none allowed never_first
  where
    none : (p n : ℕ) (v : Value) → InBytes front [] p n v → ⊥
    none p n v r = let e = ap length r.3 in omega (arith, length-append r.0 (r.2 ∷ r.1))
reads_first front (b ∷ rest) =
    first_like (Either (AtByte front b) (InBytes (front ++ b ∷ []) rest)) (InBytes front (b ∷ rest)) to from
    (first_refusal (fault front b) (reads (front ++ b ∷ []) rest))
    (first_both (AtByte front b) (InBytes (front ++ b ∷ []) rest) before (fault front b) (reads (front ++ b ∷ []) rest)
    (fault_first front b) (reads_first (front ++ b ∷ []) rest))
  where
    before : Before (AtByte front b) (InBytes (front ++ b ∷ []) rest)
    before p n v q m w r s =
        let x = r.0 in let y = s.4 in
        omega (arith, length-append (front ++ b ∷ []) s.0, length_push front b)

    to : (p n : ℕ) (v : Value) → Either (AtByte front b) (InBytes (front ++ b ∷ []) rest) p n v → InBytes front (b ∷ rest) p n v
    to p n v (inl r) = (
      [],
      rest,
      b,
      refl,
      r.0 ∙ ap (λ l. 3 + length l) (sym (append-nil front)),
      subst (λ l. AppliesAt l b n v) (sym (append-nil front)) r.1,
    )
    to p n v (inr r) = (
      b ∷ r.0,
      r.1,
      r.2,
      ap (λ l. b ∷ l) r.3,
      r.4 ∙ ap (λ l. 3 + length l) (append_assoc front (b ∷ []) r.0),
      subst (λ l. AppliesAt l r.2 n v) (append_assoc front (b ∷ []) r.0) r.5,
    )

    from : (p n : ℕ) (v : Value) → InBytes front (b ∷ rest) p n v → Either (AtByte front b) (InBytes (front ++ b ∷ []) rest) p n v
    from p n v ([], r, c, e, place, a) =
        let same : c ≡ b = cc in
        inl (
          place ∙ ap (λ l. 3 + length l) (append-nil front),
          subst (λ x. AppliesAt front x n v) same (subst (λ l. AppliesAt l c n v) (append-nil front) a),
        )
    from p n v (x ∷ f, r, c, e, place, a) =
        let same : x ≡ b = cc in
        let tail : rest ≡ f ++ c ∷ r = cc in
        let move : front ++ x ∷ f ≡ (front ++ b ∷ []) ++ f =
        ap (λ y. front ++ y ∷ f) same ∙ sym (append_assoc front (b ∷ []) f) in
        inr (f, r, c, tail, place ∙ ap (λ l. 3 + length l) move, subst (λ l. AppliesAt l c n v) move a)

-- The tests of a whole name decide what their rules say.
pub no_byte_decides : (s : List ℕ) → Decides (eqb (length s) 0) (s ≡ [])
no_byte_decides [] = (λ _. refl, λ _. refl)
no_byte_decides (b ∷ s) = (λ e. absurd (omega (arith, eqb-true (length (b ∷ s)) 0 e)), λ e. absurd (omega (arith, ap length e)))

pub last_decides : (x : ℕ) (s : List ℕ) → 0 < x → Decides (eqb (last_byte s) x) (Ends (x ∷ []) s)
last_decides x s h = (λ e. ends_with_last x s h (eqb-true (last_byte s) x e), λ e. eq-eqb (last_byte s) x (last_from_ends x s e))

first_decides : (x : ℕ) (s : List ℕ) → 0 < x → Decides (eqb (get_or s 0 0) x) (Begins (x ∷ []) s)
first_decides x [] h = (λ e. absurd (omega (arith, eqb-true 0 x e)), λ e. absurd (omega (arith, ap length e.1)))
first_decides x (b ∷ s) h = (
  λ e. (s, ap (λ y. y ∷ s) (eqb-true b x e)),
  λ e. eq-eqb b x (ap (λ l. get_or l 0 0) e.1),
)

longer_lock_decides : (s : List ℕ)
    → Decides (ends_in_lock s && not (eqb (length s) 5)) (Ends dot_lock s × (s ≡ dot_lock → ⊥))
longer_lock_decides s = (
  λ e. let p = and_parts (ends_in_lock s) _ e in
      ((lock_decides s).0 p.0, λ k. let z = ap (λ l. not (eqb (length l) 5)) k in false≢true (sym z ∙ p.1)),
  λ h. and_from (ends_in_lock s) _ ((lock_decides s).1 h.0) (not_from_false (eqb (length s) 5) (ne_eqb (length s) 5 (λ k. h.1 (alone h.0.0 h.0.1 k)))),
)
  where
    alone : (f : List ℕ) → s ≡ f ++ dot_lock → length s ≡ 5 → s ≡ dot_lock
    alone [] e k = e
    alone (b ∷ f) e k = absurd (omega (arith, ap length e, length-append f dot_lock))

module _ (s : List ℕ) where
  -- The rules before any byte is read, and those for the whole name.
  abbrev Opening : Rule Value
  Opening =
      Either (One (s ≡ []) 0 11 nothing)
      (Either (One (Ends (47 ∷ []) s) 1 10 nothing) (One (Begins (47 ∷ []) s) 2 2 nothing))

  abbrev Closing : Rule Value
  Closing =
      Either (One (Ends dot_lock s × (s ≡ dot_lock → ⊥)) (3 + length s) 5 nothing)
      (Either (One (Begins (46 ∷ []) s) (4 + length s) 8 nothing) (One (Ends (46 ∷ []) s) (5 + length s) 9 nothing))

  opening_first : OnlyFirst Opening (opening s)
  opening_first =
      one_before (s ≡ []) 0 11 nothing (eqb (length s) 0) (no_byte_decides s) _ _
      (one_before (Ends (47 ∷ []) s) 1 10 nothing (eqb (last_byte s) 47) (last_decides 47 s (omega arith)) _ _
      (one_first (Begins (47 ∷ []) s) 2 2 nothing (eqb (get_or s 0 0) 47) (first_decides 47 s (omega arith)))
      (λ q m w r. let z = r.1 in omega arith))
      (λ q m w. ⊎_elim (λ r. let z = r.1 in omega arith) (λ r. let z = r.1 in omega arith))

  closing_first : OnlyFirst Closing (closing s)
  closing_first =
      one_before (Ends dot_lock s × (s ≡ dot_lock → ⊥)) (3 + length s) 5 nothing
      (ends_in_lock s && not (eqb (length s) 5)) (longer_lock_decides s) _ _
      (one_before (Begins (46 ∷ []) s) (4 + length s) 8 nothing (eqb (get_or s 0 0) 46) (first_decides 46 s (omega arith)) _ _
      (one_first (Ends (46 ∷ []) s) (5 + length s) 9 nothing (eqb (last_byte s) 46) (last_decides 46 s (omega arith)))
      (λ q m w r. let z = r.1 in omega arith))
      (λ q m w. ⊎_elim (λ r. let z = r.1 in omega arith) (λ r. let z = r.1 in omega arith))

  -- The place of a rule, in each group.
  opening_place : (p n : ℕ) (v : Value) → Opening p n v → p < 3
  opening_place p n v (inl r) = let z = r.1 in omega arith
  opening_place p n v (inr (inl r)) = let z = r.1 in omega arith
  opening_place p n v (inr (inr r)) = let z = r.1 in omega arith

  bytes_place : (p n : ℕ) (v : Value) → InBytes [] s p n v → (2 < p) × (p < 3 + length s)
  bytes_place p n v r =
      let place = r.4 in let long = ap length r.3 in
      (omega arith, omega (arith, length-append r.0 (r.2 ∷ r.1)))

  closing_place : (p n : ℕ) (v : Value) → Closing p n v → (2 + length s < p) × (p < 6 + length s)
  closing_place p n v (inl r) = let z = r.1 in (omega arith, omega arith)
  closing_place p n v (inr (inl r)) = let z = r.1 in (omega arith, omega arith)
  closing_place p n v (inr (inr r)) = let z = r.1 in (omega arith, omega arith)

  -- All the rules, in their three groups.
  abbrev Groups : Rule Value
  Groups = Either Opening (Either (InBytes [] s) Closing)

  groups_first : OnlyFirst Groups (tag_name s)
  unfolding tag_name
  groups_first =
      first_both Opening (Either (InBytes [] s) Closing)
      (λ p n v q m w r. ⊎_elim
      (λ t. let a = opening_place p n v r in let c = (bytes_place q m w t).0 in omega arith)
      (λ t. let a = opening_place p n v r in let c = (closing_place q m w t).0 in omega arith))
      (opening s) (first_refusal (reads [] s) (closing s)) opening_first
      (first_both (InBytes [] s) Closing
      (λ p n v q m w r t. let a = (bytes_place p n v r).1 in let c = (closing_place q m w t).0 in omega arith)
      (reads [] s) (closing s) (reads_first [] s) closing_first)

  -- What applies is in one of the groups, and conversely.
  one_applies : {P : Type 0} {place number : ℕ} (f : P → Applies s place number nothing) (p n : ℕ) (v : Value)
      → One P place number nothing p n v → Applies s p n v
  one_applies {P} {place} {number} f p n v r =
      subst (λ q. Applies s q n v) (sym r.1)
      (subst (λ m. Applies s place m v) (sym r.2) (subst (λ w. Applies s place number w) (sym r.3) (f r.0)))

  to_applies : (p n : ℕ) (v : Value) → Groups p n v → Applies s p n v
  to_applies p n v (inl (inl r)) = one_applies no_byte p n v r
  to_applies p n v (inl (inr (inl r))) = one_applies slash_last p n v r
  to_applies p n v (inl (inr (inr r))) = one_applies slash_first p n v r
  to_applies p n v (inr (inl r)) = subst (λ q. Applies s q n v) (sym r.4) (at_byte r.0 r.1 r.3 r.5)
  to_applies p n v (inr (inr (inl r))) = one_applies (λ h. lock_last h.0 h.1) p n v r
  to_applies p n v (inr (inr (inr (inl r)))) = one_applies dot_first p n v r
  to_applies p n v (inr (inr (inr (inr r)))) = one_applies dot_last p n v r

  from_applies : (p n : ℕ) (v : Value) → Applies s p n v → Groups p n v
  from_applies p n v (no_byte h) = inl (inl (h, refl, refl, refl))
  from_applies p n v (slash_last h) = inl (inr (inl (h, refl, refl, refl)))
  from_applies p n v (slash_first h) = inl (inr (inr (h, refl, refl, refl)))
  from_applies p n v (at_byte front rest {b} e a) = inr (inl (front, rest, b, e, refl, a))
  from_applies p n v (lock_last h k) = inr (inr (inl ((h, k), refl, refl, refl)))
  from_applies p n v (dot_first h) = inr (inr (inr (inl (h, refl, refl, refl))))
  from_applies p n v (dot_last h) = inr (inr (inr (inr (h, refl, refl, refl))))

  -- The answer for a tag name is that of the first rule that applies, and no other is.
  pub tag_first : OnlyFirst (Applies s) (tag_name s)
  tag_first = first_like Groups (Applies s) to_applies from_applies (tag_name s) groups_first

  -- The place of a rule for a tag name.
  pub tag_place : (p n : ℕ) (v : Value) → Applies s p n v → p < 6 + length s
  tag_place p n v a = place (from_applies p n v a)
    where
      place : Groups p n v → p < 6 + length s
      place (inl r) = let z = opening_place p n v r in omega arith
      place (inr (inl r)) = let z = (bytes_place p n v r).1 in omega arith
      place (inr (inr r)) = (closing_place p n v r).1
