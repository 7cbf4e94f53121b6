-- What is among the elements of a list.
use Rattle.std.proofs.Common.{◌≡◌, ℕ, zero, suc, ◌<◌, ◌⊎◌, List, [], ◌∷◌, ◌++◌, length, sym, refl, subst, inl, inr, arith}
use Rattle.std.specs.List.{AllByRecursion, Contains, slice_index_or}

-- x is one of these.
abbrev pub Among : {X : Type 0} → X → List X → Type 0
Among x [] = ⊥
Among x (y ∷ ys) = (x ≡ y) ⊎ Among x ys

-- An element that is written out is among the list.
pub among_at : {X : Type 0} (f : List X) (x : X) (r : List X) → Among x (f ++ x ∷ r)
among_at [] x r = inl refl
among_at (y ∷ f) x r = inr (among_at f x r)

module _ {X : Type 0} (P : X → Type 0) where
  -- What holds of all holds of each.
  pub each_from_all : (xs : List X) → AllByRecursion P xs → (x : X) → Among x xs → P x
  each_from_all [] h x m = absurd m
  each_from_all (y ∷ xs) h x (inl e) = subst P (sym e) h.0
  each_from_all (y ∷ xs) h x (inr m) = each_from_all xs h.1 x m

  -- What holds of each holds of all.
  pub all_from_each : (xs : List X) → ((x : X) → Among x xs → P x) → AllByRecursion P xs
  all_from_each [] h = tt
  all_from_each (y ∷ xs) h = (h y (inl refl), all_from_each xs (λ x m. h x (inr m)))

-- The same by the index that an element has, which is the library's way.

pub contains_among : {X : Type 0} (xs : List X) (x : X) → Among x xs → Contains xs x
contains_among [] x m = absurd m
contains_among (y ∷ xs) x (inl e) = (0, omega arith, sym e)
contains_among (y ∷ xs) x (inr m) = let r = contains_among xs x m in let l = r.1 in (suc r.0, omega arith, r.2)

among_index : {X : Type 0} (xs : List X) (x : X) (k : ℕ) → k < length xs → slice_index_or xs k x ≡ x → Among x xs
among_index [] x k l e = absurd (omega arith)
among_index (y ∷ xs) x zero l e = inl (sym e)
among_index (y ∷ xs) x (suc k) l e = inr (among_index xs x k (omega arith) e)

pub among_contains : {X : Type 0} (xs : List X) (x : X) → Contains xs x → Among x xs
among_contains xs x c = among_index xs x c.0 c.1 c.2
