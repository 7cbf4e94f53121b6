-- The answer of the first rule that applies, for rules that stand in several groups.
use Rattle.std.proofs.Common.{◌≡◌, ℕ, ◌<◌, Bool, true, false, cond, ◌⊎◌, Decides, sym, refl, ◌∙◌, subst, inl, inr, ⊎_elim, arith}
use Rattle.std.proofs.lemmas.Bool.{false≢true}
use Rattle.tag.specs.Answers.{Answer, IsFirst, first_refusal}
use Rattle.tag.specs.Answers.Answer.{allowed, refused}

-- What applies at a place, with a number and what the refusal carries.
abbrev pub Rule : Type 0 → Type 1
Rule V = ℕ → ℕ → V → Type 0

-- The answer is that of the first rule that applies, and no other is.
abbrev pub OnlyFirst : {V : Type 0} → Rule V → Answer V → Type 0
OnlyFirst {V} R x = IsFirst R x × ((y : Answer V) → IsFirst R y → y ≡ x)

-- No rule at all.
abbrev pub Never : {V : Type 0} → Rule V
Never p n v = ⊥

-- One rule, which applies where P holds.
abbrev pub One : {V : Type 0} → Type 0 → ℕ → ℕ → V → Rule V
One P place number value p n v = P × (p ≡ place) × (n ≡ number) × (v ≡ value)

-- The rules of two groups.
abbrev pub Either : {V : Type 0} → Rule V → Rule V → Rule V
Either R S p n v = R p n v ⊎ S p n v

-- Each rule of the first group has its place before each of the second.
abbrev pub Before : {V : Type 0} → Rule V → Rule V → Type 0
Before {V} R S = (p n : ℕ) (v : V) (q m : ℕ) (w : V) → R p n v → S q m w → p < q

-- Where no rule applies, allowed is the answer.
pub never_first : {V : Type 0} → OnlyFirst (Never {V = V}) allowed
never_first {V} = (λ p n v r. r, only)
  where
    only : (y : Answer V) → IsFirst (Never {V = V}) y → y ≡ allowed
    only allowed h = refl
    only (refused n v) h = absurd h.1

module _ {V : Type 0} (R S : Rule V) where
  -- The same rules have the same first.
  is_first_like : ((p n : ℕ) (v : V) → R p n v → S p n v) → ((p n : ℕ) (v : V) → S p n v → R p n v)
      → (x : Answer V) → IsFirst R x → IsFirst S x
  is_first_like to from allowed h = λ p n v s. h p n v (from p n v s)
  is_first_like to from (refused n v) h =
      (h.0, to h.0 n v h.1, λ q m w l s. h.2 q m w l (from q m w s))

module _ {V : Type 0} (R S : Rule V) where
  pub first_like : ((p n : ℕ) (v : V) → R p n v → S p n v) → ((p n : ℕ) (v : V) → S p n v → R p n v)
      → (x : Answer V) → OnlyFirst R x → OnlyFirst S x
  first_like to from x h =
      (is_first_like R S to from x h.0, λ y k. h.1 y (is_first_like S R from to y k))

  -- Where no rule of the first group applies, the first of the second is the first of both, and no other.
  first_right : ((p n : ℕ) (v : V) → R p n v → ⊥) → (x : Answer V) → OnlyFirst S x → OnlyFirst (Either R S) x
  first_right none x h = (to x h.0, λ y k. h.1 y (from y k))
    where
      to : (y : Answer V) → IsFirst S y → IsFirst (Either R S) y
      to allowed k = λ p n v. ⊎_elim (none p n v) (k p n v)
      to (refused n v) k = (k.0, inr k.1, λ q m w l. ⊎_elim (none q m w) (k.2 q m w l))

      from : (y : Answer V) → IsFirst (Either R S) y → IsFirst S y
      from allowed k = λ p n v s. k p n v (inr s)
      from (refused n v) k =
          (k.0, ⊎_elim (λ r. absurd (none k.0 n v r)) (λ s. s) k.1, λ q m w l s. k.2 q m w l (inr s))

  -- Where a rule of the first group applies, its first is the first of both, and no other.
  first_left : Before R S → (n : ℕ) (v : V) → OnlyFirst R (refused n v) → OnlyFirst (Either R S) (refused n v)
  first_left before n v h = (
    (h.0.0, inl h.0.1, λ q m w l. ⊎_elim (h.0.2 q m w l) (λ s. late q m w s l)),
    only,
  )
    where
      late : (q m : ℕ) (w : V) → S q m w → q < h.0.0 → ⊥
      late q m w s l = let k = before h.0.0 n v q m w h.0.1 s in omega arith

      only : (y : Answer V) → IsFirst (Either R S) y → y ≡ refused n v
      only allowed k = absurd (k h.0.0 n v (inl h.0.1))
      only (refused m w) k =
          h.1 (refused m w)
          (k.0, ⊎_elim (λ r. r) (λ s. absurd (k.2 h.0.0 n v (before h.0.0 n v k.0 m w h.0.1 s) (inl h.0.1))) k.1, λ q o u l r. k.2 q o u l (inl r))

  -- Of two groups in this order, the first refusal is the first of both.
  pub first_both : Before R S → (x y : Answer V) → OnlyFirst R x → OnlyFirst S y → OnlyFirst (Either R S) (first_refusal x y)
  first_both before allowed y h k = first_right h.0 y k
  first_both before (refused n v) y h k = first_left before n v h

-- One rule, decided by a test.
pub one_first : {V : Type 0} (P : Type 0) (place n : ℕ) (v : V) (t : Bool) → Decides t P
    → OnlyFirst (One P place n v) (cond t (refused n v) allowed)
one_first {V} P place n v true d = (
  (place, (d.0 refl, refl, refl, refl), λ q m w l r. let e = r.1 in omega arith),
  only,
)
  where
    only : (y : Answer V) → IsFirst (One P place n v) y → y ≡ refused n v
    only allowed k = absurd (k place n v (d.0 refl, refl, refl, refl))
    only (refused m w) k = let e = k.1.2 in let f = k.1.3 in cc
one_first {V} P place n v false d = (λ q m w r. false≢true (d.1 r.0), only)
  where
    only : (y : Answer V) → IsFirst (One P place n v) y → y ≡ allowed
    only allowed k = refl
    only (refused m w) k = absurd (false≢true (d.1 k.1.0))

-- One rule before others, by a test before theirs.
pub one_before : {V : Type 0} (P : Type 0) (place n : ℕ) (v : V) (t : Bool) → Decides t P → (S : Rule V) (x : Answer V)
    → OnlyFirst S x → ((q m : ℕ) (w : V) → S q m w → place < q) → OnlyFirst (Either (One P place n v) S) (cond t (refused n v) x)
one_before P place n v true d S x h later =
    first_both (One P place n v) S (λ p o u q m w r s. let e = r.1 in let l = later q m w s in omega arith)
    (refused n v) x (one_first P place n v true d) h
one_before P place n v false d S x h later =
    first_both (One P place n v) S (λ p o u q m w r s. let e = r.1 in let l = later q m w s in omega arith)
    allowed x (one_first P place n v false d) h

-- An answer that is the one of the first rule.
pub is_first : {V : Type 0} {R : Rule V} {x y : Answer V} → x ≡ y → OnlyFirst R y → IsFirst R x
is_first {R} e h = subst (IsFirst R) (sym e) h.0

pub is_only : {V : Type 0} {R : Rule V} {x y : Answer V} → x ≡ y → OnlyFirst R y → (a : Answer V) → IsFirst R a → a ≡ x
is_only e h a k = h.1 a k ∙ sym e
