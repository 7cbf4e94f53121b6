-- Lemmas for the laws that src/ proves: the declared pairs as a list, and what is kept, added and found.
use Rattle.std.specs.Prelude.{◌≡◌, ℕ, true, ◌&&◌, ◌||◌, List, Decides, Contains, refl, bytes_eq}
use Rattle.std.proofs.Common.{sym, ap, subst, ◌∙◌, inl, inr}
use Rattle.std.proofs.lemmas.List.{get_or_default}
use Rattle.std.proofs.lemmas.Bool.{and_parts, and_from}
use Rattle.std.proofs.lemmas.Bool.Decides.{Decides-by_or, Decides-like, Decides-or}
use Rattle.protections.proofs.Equal.{bytes_eq-true, bytes_eq-refl, bytes_eq-decides}
use Rattle.filesystems.specs.Pairs.{Pairs, is_declared, confused, Confused}

-- the test decides what the definition says in words

pub is_declared-decides : (pairs : Pairs) (a b : List ℕ) → Decides (is_declared pairs a b) (Contains pairs (a, b))
is_declared-decides pairs a b =
    Decides-like (is_declared pairs a b) (λ h. (h.0, h.1, h.2 (a, b)))
    (λ h. (h.0, h.1, λ d. get_or_default pairs h.0 d (a, b) h.1 ∙ h.2))
    (Decides-by_or (λ p. bytes_eq a p.0 && bytes_eq b p.1) (λ p. p ≡ (a, b)) (λ ps. is_declared ps a b)
    (λ p. (λ e. from p e, λ e. subst (λ q. (bytes_eq a q.0 && bytes_eq b q.1) ≡ true) (sym e) (and_from (bytes_eq a a) (bytes_eq b b) (bytes_eq-refl a) (bytes_eq-refl b))))
    refl
    (λ _ _. refl)
    pairs)
  where
    from : (p : List ℕ × List ℕ) → (bytes_eq a p.0 && bytes_eq b p.1) ≡ true → p ≡ (a, b)
    from p e =
        let both = and_parts (bytes_eq a p.0) (bytes_eq b p.1) e in
        let l = bytes_eq-true a p.0 both.0 in
        let r = bytes_eq-true b p.1 both.1 in
        ap (λ x. (x, p.1)) (sym l) ∙ ap (λ y. (a, y)) (sym r)

pub confused-decides : (pairs : Pairs) (a b : List ℕ) → Decides (confused pairs a b) (Confused pairs a b)
unfolding confused
confused-decides pairs a b =
    Decides-or (bytes_eq a b) (is_declared pairs a b || is_declared pairs b a) (bytes_eq-decides a b)
    (Decides-or (is_declared pairs a b) (is_declared pairs b a) (is_declared-decides pairs a b) (is_declared-decides pairs b a))

-- the laws of the declared bottom

pub confused_equal : (pairs : Pairs) (a b : List ℕ) → a ≡ b → confused pairs a b ≡ true
confused_equal pairs a b e = (confused-decides pairs a b).1 (inl e)

pub confused_sym : (pairs : Pairs) (a b : List ℕ) → confused pairs a b ≡ true → confused pairs b a ≡ true
confused_sym pairs a b e = (confused-decides pairs b a).1 (turned ((confused-decides pairs a b).0 e))
  where
    turned : Confused pairs a b → Confused pairs b a
    turned (inl p) = inl (sym p)
    turned (inr (inl h)) = inr (inr h)
    turned (inr (inr h)) = inr (inl h)
