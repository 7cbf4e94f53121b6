-- The mended text is what mending makes, and no other text is.
use Rattle.std.proofs.Common.{◌≡◌, ℕ, zero, suc, ◌-◌, ◌<◌, ◌≤◌, false, ◌&&◌, ◌||◌, eqb, List, [], ◌∷◌, ◌++◌, map, length, get_or, take, set, sym, refl, ap, ◌∙◌, subst, ⊎_elim, arith}
use Rattle.std.specs.List.{AllByRecursion}
use Rattle.std.proofs.lemmas.List.{length-append, length_push, take_at}
use Rattle.std.proofs.lemmas.Bool.{and_parts, cond-false, cond-true, cond_both, eqb-false, eqb-true, false≢true, ne_eqb, or_parts, or_cases, cases_Bool}
use Rattle.std.proofs.lemmas.Bool.Decides.{nat_tests, not_from_Decides}
use Rattle.tag.specs.Bytes.{dot_lock, ends_in_lock, invalid, last_byte}
use Rattle.tag.specs.Components.{components, joined}
use Rattle.tag.specs.Fronts.{Ends}
use Rattle.tag.specs.Refusals.{IsForbidden}
use Rattle.tag.proofs.Locks.{lock_decides}
use Rattle.tag.proofs.TagRefusals.{ends_with_last, forbidden_decides, last_decides}
use Rattle.mending.specs.Mender.{dash_alone, dash_end, mended, mended_component, nonempty, replaced, replacement, without_lock, without_lock_up_to}
use Rattle.mending.specs.Mends.{AllBecome, Becomes, ComponentBecomes, ComponentsBecome, EndBecomes, LosesLock, Mends, WholeBecomes}
use Rattle.mending.proofs.Following.{last_or, last_or_byte}
use Rattle.mending.proofs.Joining.{components_slashless}
use Rattle.mending.proofs.Laws.{set_last}
use Rattle.mending.proofs.Replaced.{Slashless}
use Rattle.mending.proofs.Replacing.{last_or_push}
use Rattle.mending.proofs.WithoutLock.{without_lock_done, without_lock_step}

-- With a slash before them, the bytes end with a slash only where there is none of them.
abbrev Begun : List ℕ → Type 0
Begun front = last_or 47 front ≡ 47 → front ≡ []

begun_push : (front : List ℕ) (b : ℕ) → (b ≡ 47 → ⊥) → Begun (front ++ b ∷ [])
begun_push front b n e = absurd (n (sym (last_or_push 47 front b) ∙ e))

-- The last byte, by a slash before the bytes.
last_of : (x : ℕ) (front : List ℕ) → Ends (x ∷ []) front → last_or 47 front ≡ x
last_of x front e = ap (last_or 47) e.1 ∙ last_or_push 47 e.0 x

ends_of : (x : ℕ) (front : List ℕ) → 0 < x → (x ≡ 47 → ⊥) → last_or 47 front ≡ x → Ends (x ∷ []) front
ends_of x [] h n e = absurd (n (sym e))
ends_of x (b ∷ s) h n e = ends_with_last x (b ∷ s) h (sym (last_or_byte 47 b s) ∙ e)

-- What stands for a byte to which nothing applies is the byte.
replacement_other : (a b : ℕ) → invalid b ≡ false → (b ≡ 42 → ⊥) → (b ≡ 123 → a ≡ 64 → ⊥) → (b ≡ 46 → a ≡ 46 → ⊥)
    → (b ≡ 46 → a ≡ 47 → ⊥) → replacement a b ≡ b ∷ []
replacement_other a b i star brace dots dot = grind (arith, nat_tests)

-- Only one thing becomes of a byte.
becomes_only : (front : List ℕ) {b : ℕ} {new : List ℕ} → Begun front → Becomes front b new → new ≡ replacement (last_or 47 front) b
becomes_only front s (Becomes.forbidden {b} h) = rw ((forbidden_decides b).1 h) refl
becomes_only front s Becomes.asterisk = refl
becomes_only front s (Becomes.brace_after_at e) = rw (last_of 64 front e) refl
becomes_only front s (Becomes.dot_at_start e) = rw e refl
becomes_only front s (Becomes.dot_after_dot e) = rw (last_of 46 front e) refl
becomes_only front s (Becomes.any_other {b} i star brace dot) =
    sym (replacement_other (last_or 47 front) b (not_from_ne b i) star
    (λ p q. brace p (ends_of 64 front (omega arith) (λ k. omega arith) q))
    (λ p q. (dot p).1 (ends_of 46 front (omega arith) (λ k. omega arith) q))
    (λ p q. (dot p).0 (s q)))
  where
    not_from_ne : (b : ℕ) → (IsForbidden b → ⊥) → invalid b ≡ false
    not_from_ne b n = ⊎_elim (λ t. absurd (n ((forbidden_decides b).0 t))) (λ f. f) (cases_Bool (invalid b))

-- What stands for a byte is what becomes of it.
becomes : (front : List ℕ) (b : ℕ) → Begun front → Becomes front b (replacement (last_or 47 front) b)
becomes front b s =
    cond_both (invalid b || eqb b 42) (45 ∷ []) _ (Becomes front b)
    (λ t. ⊎_elim (λ i. Becomes.forbidden ((forbidden_decides b).0 i))
    (λ e. subst (λ x. Becomes front x (45 ∷ [])) (sym (eqb-true b 42 e)) Becomes.asterisk)
    (or_cases (invalid b) (eqb b 42) t))
    (λ f. let none = or_parts (invalid b) (eqb b 42) f in
    cond_both (eqb b 123 && eqb a 64) (45 ∷ []) _ (Becomes front b)
    (λ t. let p = and_parts (eqb b 123) (eqb a 64) t in
    subst (λ x. Becomes front x (45 ∷ [])) (sym (eqb-true b 123 p.0))
    (Becomes.brace_after_at (ends_of 64 front (omega arith) (λ k. omega arith) (eqb-true a 64 p.1))))
    (λ g. cond_both (eqb b 46 && eqb a 46) [] _ (Becomes front b)
    (λ t. let p = and_parts (eqb b 46) (eqb a 46) t in
    subst (λ x. Becomes front x []) (sym (eqb-true b 46 p.0))
    (Becomes.dot_after_dot (ends_of 46 front (omega arith) (λ k. omega arith) (eqb-true a 46 p.1))))
    (λ o. cond_both (eqb b 46 && eqb a 47) (45 ∷ []) (b ∷ []) (Becomes front b)
    (λ t. let p = and_parts (eqb b 46) (eqb a 47) t in
    subst (λ x. Becomes front x (45 ∷ [])) (sym (eqb-true b 46 p.0)) (Becomes.dot_at_start (s (eqb-true a 47 p.1))))
    (λ q. Becomes.any_other (not_from_Decides (invalid b) (forbidden_decides b) none.0) (eqb-false b 42 none.1)
    (λ k l. false≢true (sym g ∙ rw (k, last_of 64 front l) refl))
    (λ k. (
      λ l. false≢true (sym q ∙ rw (k, ap (last_or 47) l) refl),
      λ l. false≢true (sym o ∙ rw (k, last_of 46 front l) refl),
    ))))))
  where
    a : ℕ
    a = last_or 47 front

-- The same of all bytes of a component.
all_become : (front c : List ℕ) → Begun front → Slashless c → AllBecome front c (replaced (last_or 47 front) c)
unfolding replaced
all_become front [] s h = AllBecome.none
all_become front (b ∷ c) s h =
    let rest = all_become (front ++ b ∷ []) c (begun_push front b h.0) h.1 in
    AllBecome.more (becomes front b s) (subst (λ a. AllBecome (front ++ b ∷ []) c (replaced a c)) (last_or_push 47 front b) rest)

all_become_only : {front c new : List ℕ} → AllBecome front c new → Begun front → Slashless c → new ≡ replaced (last_or 47 front) c
unfolding replaced
all_become_only AllBecome.none s h = refl
all_become_only (AllBecome.more {front} {rest} {new} {others} {b} r m) s h =
    let e = becomes_only front s r in
    let k = all_become_only m (begun_push front b h.0) h.1 in
    ap (λ l. l ++ others) e ∙ ap (λ l. replacement (last_or 47 front) b ++ l) (k ∙ ap (λ a. replaced a rest) (last_or_push 47 front b))

-- Taking .lock off the end.
front_of_lock : (c f : List ℕ) → c ≡ f ++ dot_lock → take (length c - 5) c ≡ f
front_of_lock c f e =
    ap (λ l. take (length l - 5) l) e
    ∙ (let n : length (f ++ dot_lock) - 5 ≡ length f = omega (arith, length-append f dot_lock) in
    ap (λ m. take m (f ++ dot_lock)) n ∙ take_at f dot_lock (length f) refl)

loses_lock : (n : ℕ) (c : List ℕ) → length c ≤ n → LosesLock c (without_lock_up_to n c)
unfolding without_lock_up_to
loses_lock zero [] h = LosesLock.kept (not_from_Decides (ends_in_lock []) (lock_decides []) refl)
loses_lock zero (b ∷ c) h = absurd (omega arith)
loses_lock (suc n) c h =
    cond_both (ends_in_lock c) (without_lock_up_to n (take (length c - 5) c)) c (LosesLock c)
    (λ t. let e = (lock_decides c).0 t in
    let f = front_of_lock c e.0 e.1 in
    let long = ap length e.1 in
    let rest = loses_lock n e.0 (omega (arith, length-append e.0 dot_lock)) in
    subst (λ z. LosesLock z (without_lock_up_to n (take (length c - 5) c))) (sym e.1)
    (LosesLock.taken_off (subst (λ z. LosesLock e.0 (without_lock_up_to n z)) (sym f) rest)))
    (λ t. LosesLock.kept (not_from_Decides (ends_in_lock c) (lock_decides c) t))

loses_lock_only : {c left : List ℕ} → LosesLock c left → left ≡ without_lock c
loses_lock_only (LosesLock.kept {c} n) =
    sym (without_lock_done c (⊎_elim (λ t. absurd (n ((lock_decides c).0 t))) (λ f. f) (cases_Bool (ends_in_lock c))))
loses_lock_only (LosesLock.taken_off {c} {left} m) =
    loses_lock_only m
    ∙ sym (without_lock_step (c ++ dot_lock) ((lock_decides (c ++ dot_lock)).1 (c, refl)) ∙ ap without_lock (front_of_lock (c ++ dot_lock) c refl))

-- A component.
component_becomes : (c : List ℕ) → Slashless c → ComponentBecomes c (mended_component c)
unfolding mended_component without_lock
component_becomes c h = record {
  bytes = replaced 47 c;
  each = all_become [] c (λ _. refl) h;
  end = loses_lock (length (replaced 47 c)) (replaced 47 c) (omega arith);
}

component_only : (c new : List ℕ) → ComponentBecomes c new → Slashless c → new ≡ mended_component c
unfolding mended_component
component_only c new m h = loses_lock_only m.end ∙ ap without_lock (all_become_only m.each (λ _. refl) h)

-- The components.
components_become : (cs : List (List ℕ)) → AllByRecursion Slashless cs → ComponentsBecome cs (map mended_component (nonempty cs))
unfolding nonempty
components_become [] h = ComponentsBecome.none
components_become ([] ∷ cs) h = ComponentsBecome.left_out (components_become cs h.1)
components_become ((b ∷ c) ∷ cs) h =
    rw (ne_eqb (length (b ∷ c)) 0 (λ e. omega arith))
    (ComponentsBecome.stays {c = b ∷ c} (λ e. omega (arith, ap length e)) (component_becomes (b ∷ c) h.0) (components_become cs h.1))

components_only : {cs new : List (List ℕ)} → ComponentsBecome cs new → AllByRecursion Slashless cs → new ≡ map mended_component (nonempty cs)
unfolding nonempty
components_only ComponentsBecome.none h = refl
components_only (ComponentsBecome.left_out m) h = components_only m h.1
components_only (ComponentsBecome.stays {c} {new} {cs} {others} some m r) h =
    rw (ne_eqb (length c) 0 (λ e. some (none c e)))
    (ap (λ x. x ∷ others) (component_only c new m h.0) ∙ ap (λ l. mended_component c ∷ l) (components_only r h.1))
  where
    none : (l : List ℕ) → length l ≡ 0 → l ≡ []
    none [] e = refl
    none (x ∷ l) e = absurd (omega arith)

-- The end of the text.
dash_for_dot : (s front : List ℕ) → s ≡ front ++ 46 ∷ [] → set s (length s - 1) 45 ≡ front ++ 45 ∷ []
dash_for_dot s front e =
    set_last s 45 (omega (arith, ap length e, length_push front 46))
    ∙ ap (λ l. l ++ 45 ∷ [])
    (ap (λ l. take (length l - 1) l) e
    ∙ (let n : length (front ++ 46 ∷ []) - 1 ≡ length front = omega (arith, length_push front 46) in
    ap (λ m. take m (front ++ 46 ∷ [])) n ∙ take_at front (46 ∷ []) (length front) refl))

end_becomes : (s : List ℕ) → EndBecomes s (dash_end s)
end_becomes s =
    cond_both (eqb (last_byte s) 46) (set s (length s - 1) 45) s (EndBecomes s)
    (λ t. let e = (last_decides 46 s (omega arith)).0 t in
    subst (EndBecomes s) (sym (dash_for_dot s e.0 e.1)) (EndBecomes.dot_last e.0 e.1))
    (λ f. EndBecomes.any_other (not_from_Decides (eqb (last_byte s) 46) (last_decides 46 s (omega arith)) f))

end_only : (s t : List ℕ) → EndBecomes s t → t ≡ dash_end s
end_only s t (EndBecomes.dot_last front e) =
    sym (cond-true (eqb (last_byte s) 46) _ s ((last_decides 46 s (omega arith)).1 (front, e)) ∙ dash_for_dot s front e)
end_only s t (EndBecomes.any_other n) =
    sym (cond-false (eqb (last_byte s) 46) (set s (length s - 1) 45) s
    (⊎_elim (λ k. absurd (n ((last_decides 46 s (omega arith)).0 k))) (λ f. f) (cases_Bool (eqb (last_byte s) 46))))

-- A text of two bytes or more is left.
left_two : (b c : ℕ) (s : List ℕ) → dash_alone (b ∷ (c ∷ s)) ≡ b ∷ (c ∷ s)
left_two b c s =
    rw (ne_eqb (length (b ∷ (c ∷ s))) 0 (λ e. omega arith), ne_eqb (length (b ∷ (c ∷ s))) 1 (λ e. omega arith)) refl

-- The whole.
whole_becomes : (s : List ℕ) → WholeBecomes s (dash_alone s)
whole_becomes [] = WholeBecomes.empty refl
whole_becomes (b ∷ []) =
    cond_both (eqb b 64) (45 ∷ []) (b ∷ []) (WholeBecomes (b ∷ []))
    (λ t. WholeBecomes.at_alone (ap (λ x. x ∷ []) (eqb-true b 64 t)))
    (λ f. WholeBecomes.any_other (λ e. omega (arith, ap length e)) (λ e. eqb-false b 64 f (ap (λ l. get_or l 0 0) e)))
whole_becomes (b ∷ (c ∷ s)) =
    subst (WholeBecomes (b ∷ (c ∷ s))) (sym (left_two b c s))
    (WholeBecomes.any_other (λ e. omega (arith, ap length e)) (λ e. omega (arith, ap length e)))

whole_only : (s t : List ℕ) → WholeBecomes s t → t ≡ dash_alone s
whole_only s t (WholeBecomes.empty e) = rw e refl
whole_only s t (WholeBecomes.at_alone e) = rw e refl
whole_only [] t (WholeBecomes.any_other n m) = absurd (n refl)
whole_only (b ∷ []) t (WholeBecomes.any_other n m) = sym (cond-false (eqb b 64) (45 ∷ []) (b ∷ []) (ne_eqb b 64 (λ e. m (ap (λ x. x ∷ []) e))))
whole_only (b ∷ (c ∷ s)) t (WholeBecomes.any_other n m) = sym (left_two b c s)

-- The mended text is what mending makes, and no other is.
pub mends_mended : (s : List ℕ) → Mends s (mended s)
unfolding mended
mends_mended s = record {
  parts = map mended_component (nonempty (components s));
  each = components_become (components s) (components_slashless s);
  text = dash_end (joined (map mended_component (nonempty (components s))));
  end = end_becomes (joined (map mended_component (nonempty (components s))));
  whole = whole_becomes (dash_end (joined (map mended_component (nonempty (components s)))));
}

pub mends_only : (s t : List ℕ) → Mends s t → t ≡ mended s
unfolding mended
mends_only s t m =
    whole_only m.text t m.whole
    ∙ ap dash_alone (end_only (joined m.parts) m.text m.end
    ∙ ap (λ l. dash_end (joined l)) (components_only m.each (components_slashless s)))
