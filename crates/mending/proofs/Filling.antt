-- The whole text, and the buffer that holds it.
use Rattle.std.proofs.Common.{◌≡◌, ℕ, ◌<◌, List, [], ◌∷◌, ◌++◌, map, length, refl, ap, ◌∙◌, ⊎_elim, arith}
use Rattle.std.specs.List.{AllByRecursion}
use Rattle.std.proofs.lemmas.List.{append_assoc, length-append}
use Rattle.std.proofs.lemmas.Bool.{cases_eq, eq-eqb, ne_eqb}
use Rattle.tag.specs.Components.{components, joined}
use Rattle.mending.specs.Mender.{mended_component, nonempty, dash_alone, dash_end, mended}
use Rattle.mending.specs.Steps.{add_all}
use Rattle.mending.proofs.MendedComponents.{mended_component_whole}
use Rattle.mending.proofs.Replaced.{Slashless}
use Rattle.mending.proofs.Joining.{components_slashless}

-- A text in front of the first of the components that are joined.
joined_front : (p c : List ℕ) (cs : List (List ℕ)) → joined ((p ++ c) ∷ cs) ≡ p ++ joined (c ∷ cs)
unfolding joined
joined_front p c [] = refl
joined_front p c (d ∷ cs) = append_assoc p c (47 ∷ joined (d ∷ cs))

-- Components added to a text that is not empty.
added_more : (w : List ℕ) (cs : List (List ℕ)) → 0 < length w → AllByRecursion Slashless cs
    → add_all w cs ≡ joined (w ∷ map mended_component (nonempty cs))
unfolding add_all nonempty joined
added_more w [] l h = refl
added_more w (c ∷ cs) l h =
    let M = map mended_component (nonempty cs) in
    ⊎_elim
    (λ e. rw (eq-eqb (length c) 0 e) (added_more w cs l h.1))
    (λ n. rw (ne_eqb (length c) 0 n, ne_eqb (length w) 0 (λ z. omega arith))
    (added_more (w ++ 47 ∷ mended_component c) cs (simp length-append (omega arith)) h.1
    ∙ joined_front w (47 ∷ mended_component c) M ∙ ap (λ t. w ++ t) (joined_front (47 ∷ []) (mended_component c) M)))
    (cases_eq (length c) 0)

-- Components added to no text.
added : (cs : List (List ℕ)) → AllByRecursion Slashless cs → add_all [] cs ≡ joined (map mended_component (nonempty cs))
unfolding add_all nonempty joined
added [] h = refl
added (c ∷ cs) h =
    ⊎_elim
    (λ e. rw (eq-eqb (length c) 0 e) (added cs h.1))
    (λ n. rw (ne_eqb (length c) 0 n) (added_more (mended_component c) cs (mended_component_whole c h.0 (omega arith)).part.some h.1))
    (cases_eq (length c) 0)

-- What is written for s, with its ends mended, is the mended text.
pub written_mended : (s : List ℕ) → dash_alone (dash_end (add_all [] (components s))) ≡ mended s
unfolding mended
written_mended s = ap (λ t. dash_alone (dash_end t)) (added (components s) (components_slashless s))
