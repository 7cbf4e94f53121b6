-- Tree paths: how many components there are, and the ruling on those that are left.
use Rattle.std.proofs.Common.{◌≡◌, ℕ, ◌+◌, ◌≤◌, List, [], ◌∷◌, length, ⊎_elim, arith}
use Rattle.std.proofs.lemmas.Bool.{cases_eq, eq-eqb, ne_eqb}
use Rattle.tag.specs.Components.{components, onto}
use Rattle.tag.specs.Answers.Answer.{allowed, refused}
use Rattle.rulebooks.specs.Kinds.{component_ruling, leftmost}

-- A byte in front of the first component adds no component to some.
length-onto : (b : ℕ) (cs : List (List ℕ)) → length (onto b cs) ≤ length cs + 1
length-onto b [] = omega arith
length-onto b (c ∷ cs) = omega arith

-- A name has at most one component more than bytes.
pub length-components : (s : List ℕ) → length (components s) ≤ length s + 1
unfolding components
length-components [] = omega arith
length-components (b ∷ s) =
    ⊎_elim
    (λ e. rw (eq-eqb b 47 e) (omega (arith, length-components s)))
    (λ n. rw (ne_eqb b 47 n) (omega (arith, length-components s, length-onto b (components s))))
    (cases_eq b 47)

-- What the components that are left, of which the first has the index i, say of the ruling.
module _ (i : ℕ) (left : List (List ℕ)) where
  -- Where the first one is refused, so is the path.
  pub leftmost_refuses : (c : List ℕ) (cs : List (List ℕ)) → left ≡ c ∷ cs → (k v : ℕ) → refused k v ≡ component_ruling i c
      → refused k v ≡ leftmost i left
  unfolding leftmost
  leftmost_refuses c cs e k v r = rw (e, ← r)

  -- Where it is allowed, the others decide.
  pub leftmost_more : (c : List ℕ) (cs : List (List ℕ)) → left ≡ c ∷ cs → allowed ≡ component_ruling i c
      → leftmost (i + 1) cs ≡ leftmost i left
  unfolding leftmost
  leftmost_more c cs e a = rw (e, ← a)

  -- Where none is left, the path is allowed.
  pub leftmost_ends : left ≡ [] → allowed ≡ leftmost i left
  unfolding leftmost
  leftmost_ends e = rw e
