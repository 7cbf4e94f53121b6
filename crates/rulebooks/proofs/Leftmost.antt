-- The ruling on a tree path refuses at the leftmost component that is empty or relative.
use Rattle.std.proofs.Common.{◌≡◌, ℕ, zero, suc, ◌+◌, ◌⊎◌, All, List, [], ◌∷◌, length, codes, Decides, sym, refl, ap, ◌∙◌, subst, inl, inr, ⊎_elim, arith}
use Rattle.std.specs.Str.{bytes_eq}
use Rattle.std.proofs.lemmas.Slice.Eq.{bytes_eq-Decides}
use Rattle.std.proofs.lemmas.Bool.{cases_Bool, cond-false, cond-true, ne_eqb}
use Rattle.std.proofs.lemmas.Bool.Decides.{Decides-or, not_from_Decides}
use Rattle.tag.specs.Answers.{Answer}
use Rattle.tag.specs.Answers.Answer.{allowed, refused}
use Rattle.tag.specs.Components.{components}
use Rattle.rulebooks.specs.Kinds.{component_ruling, leftmost, tree_paths}
use Rattle.tag.specs.Components.{IsRelative, is_relative}
use Rattle.rulebooks.specs.Paths.{IsProper, PathRuled, RefusedAt}

is_relative_decides : (c : List ℕ) → Decides (is_relative c) (IsRelative c)
is_relative_decides c =
    Decides-or (bytes_eq c (codes ".")) (bytes_eq c (codes "..")) (bytes_eq-Decides c (codes ".")) (bytes_eq-Decides c (codes ".."))

-- Why a component is refused by the number n.
abbrev Why : ℕ → List ℕ → Type 0
Why n c = ((n ≡ 21) × (c ≡ [])) ⊎ ((n ≡ 28) × IsRelative c)

-- A component is allowed and proper, or refused by its number and index.
component_cases : (i : ℕ) (c : List ℕ)
    → ((component_ruling i c ≡ allowed) × IsProper c) ⊎ ((n : ℕ) × (component_ruling i c ≡ refused n i) × Why n c)
component_cases i [] = inr (21, refl, inl (refl, refl))
component_cases i (b ∷ c) =
    let n = ne_eqb (length (b ∷ c)) 0 (λ z. omega arith) in
    ⊎_elim
    (λ e. inr (28, cond-false _ _ _ n ∙ cond-true _ _ _ e, inr (refl, (is_relative_decides (b ∷ c)).0 e)))
    (λ e. inl (cond-false _ _ _ n ∙ cond-false _ _ _ e, (λ z. let k : ◌≡◌ {A = ℕ} 0 1 = cc in omega arith, not_from_Decides (is_relative (b ∷ c)) (is_relative_decides (b ∷ c)) e)))
    (cases_Bool (is_relative (b ∷ c)))

-- The rulings on these components, the first of which has the index i.
abbrev RuledFrom : ℕ → List (List ℕ) → Answer ℕ → Type 0
RuledFrom i cs allowed = All IsProper cs
RuledFrom i cs (refused n j) = (k : ℕ) × (i + k ≡ j) × RefusedAt cs n k

-- All of none are proper, and of these one more.
all_none : All IsProper []
all_none k d l = absurd (omega arith)

all_more : (c : List ℕ) (cs : List (List ℕ)) → IsProper c → All IsProper cs → All IsProper (c ∷ cs)
all_more c cs p h zero d l = p
all_more c cs p h (suc k) d l = h k d (omega arith)

-- One more proper component before them.
ruled_more : (i : ℕ) (c : List ℕ) (cs : List (List ℕ)) (x : Answer ℕ) → IsProper c → RuledFrom (i + 1) cs x → RuledFrom i (c ∷ cs) x
ruled_more i c cs allowed p h = all_more c cs p h
ruled_more i c cs (refused n j) p h =
    let r = h.2 in (
      h.0 + 1,
      let e = h.1 in omega arith,
      record {
        before = c ∷ r.before;
        component = r.component;
        after = r.after;
        parts = ap (λ l. c ∷ l) r.parts;
        index = let e = r.index in omega arith;
        proper_before = all_more c r.before p r.proper_before;
        why = r.why;
      },
    )

ruled_from : (i : ℕ) (cs : List (List ℕ)) → RuledFrom i cs (leftmost i cs)
unfolding leftmost
ruled_from i [] = all_none
ruled_from i (c ∷ cs) =
    ⊎_elim
    (λ a. rw a.0 (ruled_more i c cs (leftmost (i + 1) cs) a.1 (ruled_from (i + 1) cs)))
    (λ b. rw b.1 (0, omega arith, record { before = []; component = c; after = cs; parts = refl; index = refl; proper_before = all_none; why = b.2 }))
    (component_cases i c)

-- From the index 0.
from_start : (cs : List (List ℕ)) (x : Answer ℕ) → RuledFrom 0 cs x → PathRuled cs x
from_start cs allowed h = h
from_start cs (refused n j) h =
    subst (RefusedAt cs n) (let e = h.1 in omega arith) h.2

pub path_ruled : (s : List ℕ) (x : Answer ℕ) → x ≡ tree_paths s → PathRuled (components s) x
path_ruled s x e = subst (PathRuled (components s)) (sym e) (from_start (components s) (tree_paths s) (ruled_from 0 (components s)))
