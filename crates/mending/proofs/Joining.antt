-- Components and the name that they make.
use Rattle.std.proofs.Common.{◌≡◌, ℕ, ◌-◌, ◌≤◌, false, eqb, List, [], ◌∷◌, ◌++◌, map, length, refl, ap, ◌∙◌, subst, arith}
use Rattle.std.specs.List.{AllByRecursion}
use Rattle.std.proofs.ByRecursion.{All-get_or}
use Rattle.std.proofs.lemmas.List.{append_assoc, append_cancel_right, length-append, length_push}
use Rattle.std.proofs.lemmas.Bool.{eqb-true, eqb-false, cond_both, cond-false}
use Rattle.std.proofs.lemmas.Bool.Decides.{nat_tests}
use Rattle.tag.specs.Answers.Answer.{allowed}
use Rattle.tag.specs.Components.{onto, components, joined}
use Rattle.tag.specs.Names.{fault_after}
use Rattle.tag.proofs.Members.{Among, all_from_each}
use Rattle.tag.proofs.Parts.{slash_free}
use Rattle.tag.proofs.Sound.{Follows, Unlocked}
use Rattle.mending.specs.Mender.{mended_component, nonempty}
use Rattle.mending.proofs.Following.{last_or, follows_append, follows_front, follows_rest, slash_after, slash_after_only}
use Rattle.mending.proofs.Replaced.{Slashless}
use Rattle.mending.proofs.MendedComponents.{Part, Whole, mended_component_whole, mended_component_short, mended_component_same}
use Rattle.mending.proofs.Locking.{unlocked_after, unlocked_before, unlocked_over, unlocked_past}

-- Each component with a slash after it.
abbrev pub closed : List (List ℕ) → List ℕ
closed [] = []
closed (c ∷ cs) = c ++ 47 ∷ closed cs

-- Components that are joined are closed by one more slash.
pub joined_closed : (c : List ℕ) (cs : List (List ℕ)) → joined (c ∷ cs) ++ 47 ∷ [] ≡ closed (c ∷ cs)
unfolding joined
joined_closed c [] = refl
joined_closed c (d ∷ cs) =
    append_assoc c (47 ∷ joined (d ∷ cs)) (47 ∷ []) ∙ ap (λ l. c ++ 47 ∷ l) (joined_closed d cs)

-- One more byte in front of the first component.
onto_closed : (b : ℕ) (cs : List (List ℕ)) (s : List ℕ) → closed cs ≡ s ++ 47 ∷ [] → closed (onto b cs) ≡ b ∷ (s ++ 47 ∷ [])
onto_closed b [] s e = absurd (omega (arith, ap length e, length_push s 47))
onto_closed b (c ∷ cs) s e = ap (λ l. b ∷ l) e

-- The components of a name, closed, are the name and a slash.
pub components_closed : (s : List ℕ) → closed (components s) ≡ s ++ 47 ∷ []
unfolding components
components_closed [] = refl
components_closed (b ∷ s) =
    let rest = components_closed s in
    cond_both (eqb b 47) ([] ∷ components s) (onto b (components s)) (λ cs. closed cs ≡ b ∷ (s ++ 47 ∷ []))
    (λ e. let k = eqb-true b 47 e in cc)
    (λ _. onto_closed b (components s) s rest)

-- Components that a name and a slash close make the name.
pub joined_from : (cs : List (List ℕ)) (s : List ℕ) → closed cs ≡ s ++ 47 ∷ [] → joined cs ≡ s
joined_from [] s e = absurd (omega (arith, ap length e, length_push s 47))
joined_from (c ∷ cs) s e = append_cancel_right (joined (c ∷ cs)) s (47 ∷ []) (joined_closed c cs ∙ e)

-- No component holds a slash.
pub components_slashless : (s : List ℕ) → AllByRecursion Slashless (components s)
components_slashless s =
    all_from_each Slashless (components s)
    (λ c m. all_from_each (λ b. b ≡ 47 → ⊥) c (λ b k e. slash_free s c m (subst (λ x. Among x c) e k)))

-- The mended components are those of a sound name.
pub nonempty_whole : (cs : List (List ℕ)) → AllByRecursion Slashless cs → AllByRecursion Whole (map mended_component (nonempty cs))
unfolding nonempty
nonempty_whole [] h = tt
nonempty_whole (c ∷ cs) h =
    cond_both (eqb (length c) 0) (nonempty cs) (c ∷ nonempty cs) (λ l. AllByRecursion Whole (map mended_component l))
    (λ _. nonempty_whole cs h.1)
    (λ e. let n = eqb-false (length c) 0 e in (mended_component_whole c h.0 (omega arith), nonempty_whole cs h.1))

-- Mending makes them no longer.
pub nonempty_short :
    (cs : List (List ℕ)) → AllByRecursion Slashless cs → length (closed (map mended_component (nonempty cs))) ≤ length (closed cs)
unfolding nonempty
nonempty_short [] h = omega arith
nonempty_short (c ∷ cs) h =
    let rest = nonempty_short cs h.1 in
    let here = mended_component_short c h.0 in
    cond_both (eqb (length c) 0) (nonempty cs) (c ∷ nonempty cs) (λ l. length (closed (map mended_component l)) ≤ length (closed (c ∷ cs)))
    (λ _. simp length-append (omega arith)) (λ _. simp length-append (omega arith))

-- The components of a sound name are left as they are.
pub nonempty_same : (cs : List (List ℕ)) → AllByRecursion Whole cs → map mended_component (nonempty cs) ≡ cs
unfolding nonempty
nonempty_same [] h = refl
nonempty_same (c ∷ cs) h =
    let some = h.0.part.some in
    let e : eqb (length c) 0 ≡ false = grind (arith, nat_tests) in
    ap (map mended_component) (cond-false (eqb (length c) 0) (nonempty cs) (c ∷ nonempty cs) e)
    ∙ (λ i. mended_component_same c h.0 i ∷ nonempty_same cs h.1 i)

-- Joined components have one slash less.
pub joined_short : (cs : List (List ℕ)) → length (joined cs) ≤ length (closed cs) - 1
unfolding joined
joined_short [] = omega arith
joined_short (c ∷ cs) = omega (arith, length_push (joined (c ∷ cs)) 47, ap length (joined_closed c cs))

-- A slash may follow a component.
slash_follows : (c : List ℕ) → Part c → fault_after (last_or 47 c) 47 ≡ allowed
slash_follows c p =
    let some = p.some in
    slash_after c (λ e. omega (arith, ap length e)) (All-get_or _ c (length c - 1) 0 (omega arith) p.slashless)

-- Components of a sound name, closed: each byte may follow the one before it.
pub whole_follows : (cs : List (List ℕ)) → AllByRecursion Whole cs → Follows 47 (closed cs)
whole_follows [] h = tt
whole_follows (c ∷ cs) h =
    follows_append 47 c (47 ∷ closed cs) h.0.part.follows (slash_follows c h.0.part, whole_follows cs h.1)

-- Components of a sound name, closed: no slash stands after .lock
pub whole_unlocked : (cs : List (List ℕ)) → AllByRecursion Whole cs → Unlocked [] (closed cs)
whole_unlocked [] h = refl
whole_unlocked (c ∷ cs) h =
    unlocked_over [] c (47 ∷ closed cs) h.0.part.slashless
    (λ _. h.0.unlocked, unlocked_after c (closed cs) (whole_unlocked cs h.1))

-- And conversely, both make each component one of a sound name.
pub whole_from : (cs : List (List ℕ)) → AllByRecursion Slashless cs → Follows 47 (closed cs) → Unlocked [] (closed cs) → AllByRecursion Whole cs
whole_from [] n f u = tt
whole_from (c ∷ cs) n f u =
    let rest = follows_rest 47 c (47 ∷ closed cs) f in
    let past = unlocked_past [] c (47 ∷ closed cs) u in (
      record {
        part =
            record {
              some = (slash_after_only c rest.0).0;
              slashless = n.0;
              follows = follows_front 47 c (47 ∷ closed cs) f;
            };
        unlocked = past.0 refl;
      },
      whole_from cs n.1 rest.1 (unlocked_before c (closed cs) past.1),
    )
