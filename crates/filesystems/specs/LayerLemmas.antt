-- Lemmas for the laws that src/ proves: equal lists, members of a list of keys, and the laws of a layer.
use Rattle.std.specs.Prelude.{◌≡◌, ℕ, zero, suc, ◌<◌, Bool, true, ◌||◌, ◌⊎◌, List, [], ◌∷◌, ◌≢◌, length, slice_index_or, Contains, bytes_eq}
use Rattle.std.proofs.Common.{sym, subst, inl, inr, arith}
use Rattle.std.proofs.lemmas.Bool.{or_cases, or_left, or_right}
use Rattle.protections.proofs.Equal.{bytes_eq-true, bytes_eq-decides}
use Rattle.filesystems.specs.Keys.{Key}

-- a list that begins with a key is not empty
pub none_empty : (key : Key) (keys : List Key) → key ∷ keys ≢ []
none_empty key keys e = let z : ◌≡◌ {A = ℕ} 0 1 = cc in omega arith

-- a member is the first or one of the others

member_at : (x : Key) (xs : List Key) (y : Key) (k : ℕ) → k < length (x ∷ xs) → slice_index_or (x ∷ xs) k y ≡ y → (x ≡ y) ⊎ Contains xs y
member_at x xs y zero l e = inl e
member_at x xs y (suc k) l e = inr (k, omega arith, e)

pub first_or_other : (x : Key) (xs : List Key) (y : Key) → Contains (x ∷ xs) y → (x ≡ y) ⊎ Contains xs y
first_or_other x xs y m = member_at x xs y m.0 m.1 m.2

pub only_member : (x y : Key) → Contains (x ∷ []) y → x ≡ y
only_member x y m = elim (first_or_other x [] y m) [ inl e ↦ e | inr n ↦ let l = n.1 in absurd (omega arith) ]

pub bytes_eq_from : (a b : List ℕ) → a ≡ b → bytes_eq a b ≡ true
bytes_eq_from a b e = (bytes_eq-decides a b).1 e

pub bytes_eq_sym : (a b : List ℕ) → bytes_eq a b ≡ true → bytes_eq b a ≡ true
bytes_eq_sym a b e = bytes_eq_from b a (sym (bytes_eq-true a b e))

-- equal under a key that is another by name
pub under : (k key : Key) (a b : List ℕ) → k ≡ key → key a ≡ key b → k a ≡ k b
under k key a b p e = subst (λ h. h a ≡ h b) (sym p) e

-- the laws of a layer, from those below

module _ (key : Key) (below : List ℕ → List ℕ → Bool) where
  abbrev pub either : List ℕ → List ℕ → Bool
  either a b = bytes_eq (key a) (key b) || below a b

  pub either_sym : ((a b : List ℕ) → below a b ≡ true → below b a ≡ true) → (a b : List ℕ) → either a b ≡ true → either b a ≡ true
  either_sym h a b e =
      elim (or_cases (bytes_eq (key a) (key b)) (below a b) e) [
        | inl p ↦ or_left (bytes_eq (key b) (key a)) (below b a) (bytes_eq_sym (key a) (key b) p)
        | inr q ↦ or_right (bytes_eq (key b) (key a)) (below b a) (h a b q)
      ]

  pub either_under : (keys : List Key) → ((k : Key) (a b : List ℕ) → Contains keys k → k a ≡ k b → below a b ≡ true) → (k : Key) (a b : List ℕ) →
      Contains (key ∷ keys) k → k a ≡ k b → either a b ≡ true
  either_under keys h k a b m e =
      elim (first_or_other key keys k m) [
        | inl p ↦ or_left (bytes_eq (key a) (key b)) (below a b) (bytes_eq_from (key a) (key b) (under key k a b p e))
        | inr q ↦ or_right (bytes_eq (key a) (key b)) (below a b) (h k a b q e)
      ]
