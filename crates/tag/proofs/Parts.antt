-- The components of a name: joined by slashes they are the name, and none holds a slash.
use Rattle.std.proofs.Common.{◌≡◌, ℕ, List, [], ◌∷◌, length, arith, sym, refl, ap, ◌∙◌, subst, inl, inr, ⊎_elim}
use Rattle.std.proofs.lemmas.List.Elements.{All-from_recursion}
use Rattle.std.specs.List.{Contains}
use Rattle.std.proofs.lemmas.Bool.{cases_eq, eq-eqb, ne_eqb}
use Rattle.tag.specs.Components.{components, joined, AreComponents}
use Rattle.tag.proofs.Members.{Among, all_from_each, among_contains}

-- The components of s are c and then those of cs, one byte at a time.
pub data Parts : List ℕ → List ℕ → List (List ℕ) → Type 0 where
  ends : Parts [] [] []
  slash : {s c : List ℕ} {cs : List (List ℕ)} → Parts s c cs → Parts (47 ∷ s) [] (c ∷ cs)
  other : {b : ℕ} {s c : List ℕ} {cs : List (List ℕ)} → (b ≡ 47 → ⊥) → Parts s c cs → Parts (b ∷ s) (b ∷ c) cs

-- A name with its components.
pub record Split (s : List ℕ) : Type 0 where
  pub first : List ℕ
  pub others : List (List ℕ)
  pub all : components s ≡ first ∷ others
  pub parts : Parts s first others

-- Every name has its components.
pub split : (s : List ℕ) → Split s
unfolding components
split [] = record { first = []; others = []; all = refl; parts = ends }
split (b ∷ s) =
    let r = split s in
    ⊎_elim
    (λ e. record {
      first = [];
      others = r.first ∷ r.others;
      all = rw (eq-eqb b 47 e, r.all);
      parts = subst (λ x. Parts (x ∷ s) [] (r.first ∷ r.others)) (sym e) (slash r.parts);
    })
    (λ n. record {
      first = b ∷ r.first;
      others = r.others;
      all = rw (ne_eqb b 47 n, r.all);
      parts = other n r.parts;
    })
    (cases_eq b 47)

-- A byte in front of the first component is a byte in front of the name.
joined_onto : (b : ℕ) (c : List ℕ) (cs : List (List ℕ)) → joined ((b ∷ c) ∷ cs) ≡ b ∷ joined (c ∷ cs)
unfolding joined
joined_onto b c [] = refl
joined_onto b c (d ∷ cs) = refl

-- The parts joined are the name.
joined_parts : {s c : List ℕ} {cs : List (List ℕ)} → Parts s c cs → joined (c ∷ cs) ≡ s
unfolding joined
joined_parts ends = refl
joined_parts (slash p) = ap (λ x. 47 ∷ x) (joined_parts p)
joined_parts (other {b} {s} {c} {cs} n p) = joined_onto b c cs ∙ ap (λ x. b ∷ x) (joined_parts p)

-- The components joined are the name.
pub joined_components : (s : List ℕ) → joined (components s) ≡ s
joined_components s = let r = split s in ap joined r.all ∙ joined_parts r.parts

-- No part holds a slash.
free_parts : {s d : List ℕ} {cs : List (List ℕ)} → Parts s d cs → (c : List ℕ) → Among c (d ∷ cs) → Among 47 c → ⊥
free_parts ends c (inl e) h = subst (Among 47) e h
free_parts ends c (inr m) h = m
free_parts (slash p) c (inl e) h = subst (Among 47) e h
free_parts (slash p) c (inr m) h = free_parts p c m h
free_parts (other {b} {s} {c = d} n p) c (inl e) h =
    ⊎_elim (λ x. n (sym x)) (free_parts p d (inl refl)) (subst (Among 47) e h)
free_parts (other n p) c (inr m) h = free_parts p c (inr m) h

-- No component holds a slash.
pub slash_free : (s c : List ℕ) → Among c (components s) → Among 47 c → ⊥
slash_free s c m h = let r = split s in free_parts r.parts c (subst (Among c) r.all m) h

-- There is one at least.
some_component : (s : List ℕ) → components s ≡ [] → ⊥
some_component s e = let r = split s in let h = ap length (sym r.all ∙ e) in omega arith

-- The components of s are what they are meant to be.
pub are_components : (s : List ℕ) → AreComponents s (components s)
are_components s = record {
  some = some_component s;
  joins = joined_components s;
  slash_free =
      All-from_recursion (λ c. Contains c 47 → ⊥) (components s)
      (all_from_each (λ c. Contains c 47 → ⊥) (components s) (λ c m h. slash_free s c m (among_contains c 47 h)));
}
