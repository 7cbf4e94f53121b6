-- A list with one more element somewhere in it, and lists in which each element stands in a relation to all later ones.
use Rattle.std.proofs.Common.{◌≡◌, ℕ, zero, suc, ◌⊎◌, List, [], ◌∷◌, ◌++◌, length, take, drop, sym, refl, ap, subst, inl, inr, ⊎_elim}
use Rattle.std.specs.List.{AllByRecursion}
use Rattle.std.proofs.ByRecursion.{All-weaker}
use Rattle.tag.proofs.Members.{Among}
use Rattle.tag.proofs.Members.{among_at, each_from_all}

-- The second list is the first with x somewhere in it.
pub data Inserted {X : Type 0} (x : X) : List X → List X → Type 0 where
  here : {xs : List X} → Inserted x xs (x ∷ xs)
  there : {y : X} {xs ys : List X} → Inserted x xs ys → Inserted x (y ∷ xs) (y ∷ ys)

-- Each element stands in R to all later ones.
abbrev pub Pairwise : {X : Type 0} → (X → X → Type 0) → List X → Type 0
Pairwise R [] = Unit {0}
Pairwise R (x ∷ xs) = AllByRecursion (R x) xs × Pairwise R xs

module _ {X : Type 0} where
  -- An element put in at a place.
  pub inserted_at : (x : X) (n : ℕ) (xs : List X) → Inserted x xs (take n xs ++ x ∷ drop n xs)
  inserted_at x zero xs = here
  inserted_at x (suc n) [] = here
  inserted_at x (suc n) (y ∷ xs) = there (inserted_at x n xs)

  -- One more element makes a list longer by one.
  pub inserted_length : {x : X} {xs ys : List X} → Inserted x xs ys → length ys ≡ suc (length xs)
  inserted_length here = refl
  inserted_length (there i) = ap suc (inserted_length i)

  -- Among the longer list are the inserted element and those of the shorter list.
  pub among_inserted : {x : X} {xs ys : List X} → Inserted x xs ys → (z : X) → (z ≡ x) ⊎ Among z xs → Among z ys
  among_inserted here z m = m
  among_inserted (there i) z (inl e) = inr (among_inserted i z (inl e))
  among_inserted (there i) z (inr (inl e)) = inl e
  among_inserted (there i) z (inr (inr m)) = inr (among_inserted i z (inr m))

  -- No others are.
  pub inserted_only : {x : X} {xs ys : List X} → Inserted x xs ys → (z : X) → Among z ys → (z ≡ x) ⊎ Among z xs
  inserted_only here z m = m
  inserted_only (there i) z (inl e) = inr (inl e)
  inserted_only (there i) z (inr m) = ⊎_elim inl (λ k. inr (inr k)) (inserted_only i z m)

  -- What holds of all in the longer list holds of all in the shorter, and back if it holds of the inserted element.
  pub all_without : (P : X → Type 0) {x : X} {xs ys : List X} → Inserted x xs ys → AllByRecursion P ys → AllByRecursion P xs
  all_without P here h = h.1
  all_without P (there i) h = (h.0, all_without P i h.1)

  pub all_inserted : (P : X → Type 0) {x : X} {xs ys : List X} → Inserted x xs ys → P x → AllByRecursion P xs → AllByRecursion P ys
  all_inserted P here p h = (p, h)
  all_inserted P (there i) p h = (h.0, all_inserted P i p h.1)

  module _ (R : X → X → Type 0) where
    -- The relation stays where an element is taken out.
    pub pairwise_without : {x : X} {xs ys : List X} → Inserted x xs ys → Pairwise R ys → Pairwise R xs
    pairwise_without here h = h.1
    pairwise_without (there i) h = (all_without (R _) i h.0, pairwise_without i h.1)

    -- An element that was taken out stands in the relation to each that is left, before or after it.
    pub pairwise_taken : {x : X} {xs ys : List X} → Inserted x xs ys → Pairwise R ys → (z : X) → Among z xs → R x z ⊎ R z x
    pairwise_taken here h z m = inl (each_from_all (R _) _ h.0 z m)
    pairwise_taken {x} (there {y} {xs} {ys} i) h z (inl e) =
        inr (subst (λ w. R w x) (sym e) (each_from_all (R y) ys h.0 x (among_inserted i x (inl refl))))
    pairwise_taken (there i) h z (inr m) = pairwise_taken i h.1 z m

    -- The relation by places.
    pub pairwise_at : (p q r : List X) (x y : X) → Pairwise R (p ++ (x ∷ (q ++ (y ∷ r)))) → R x y
    pairwise_at [] q r x y h = each_from_all (R x) (q ++ y ∷ r) h.0 y (among_at q y r)
    pairwise_at (z ∷ p) q r x y h = pairwise_at p q r x y h.1

  -- A weaker relation.
  pub pairwise_weaker : (R S : X → X → Type 0) → ((x y : X) → R x y → S x y) → (xs : List X) → Pairwise R xs → Pairwise S xs
  pairwise_weaker R S f [] h = tt
  pairwise_weaker R S f (x ∷ xs) h = (All-weaker (R x) (S x) (f x) xs h.0, pairwise_weaker R S f xs h.1)
