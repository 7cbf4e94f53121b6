-- The answer for a reference name is that of the first rule that applies to it.
use Rattle.std.proofs.Common.{◌≡◌, ℕ, ◌+◌, ◌<◌, Bool, true, false, cond, not, ◌⊎◌, List, length, codes, Decides, refl, subst, sym, inl, inr, ⊎_elim, arith}
use Rattle.std.specs.Prelude.{All, Contains, nat_eq}
use Rattle.std.specs.List.{list_all, starts_with}
use Rattle.std.specs.Str.{bytes_eq}
use Rattle.std.proofs.lemmas.Slice.Eq.{bytes_eq-Decides}
use Rattle.std.proofs.lemmas.Bool.{false≢true}
use Rattle.std.proofs.lemmas.Bool.Decides.{Decides-or}
use Rattle.tag.specs.Answers.{Answer, Value, first_refusal}
use Rattle.tag.specs.Answers.Answer.{allowed, refused}
use Rattle.tag.specs.Answers.Value.{nothing, name}
use Rattle.tag.specs.Fronts.{Begins}
use Rattle.tag.specs.Names.{tag_name}
use Rattle.tag.specs.Refusals.{Applies}
use Rattle.tag.proofs.FirstRules.{Either, One, OnlyFirst, Rule, first_both, first_like, one_first}
use Rattle.tag.proofs.TagRefusals.{tag_first, tag_place}
use Rattle.reference.specs.Manual.{IsCapital}
use Rattle.reference.specs.Names.{branch_name, complete_name, has_slash, is_capital, is_complete, kept_from_branches, partial_name}
use Rattle.reference.specs.Refusals.{AppliesToBranch, AppliesToComplete, AppliesToPartial}
use Rattle.reference.specs.Refusals.AppliesToBranch.{as_complete, head, dash}
use Rattle.reference.specs.Refusals.AppliesToComplete.{as_partial, one_level}
use Rattle.reference.specs.Refusals.AppliesToPartial.{as_tag, at_alone}
use Rattle.reference.proofs.Manual.{all_capital_decides, begins_decides, slash_decides}

-- One more rule, at a later place, decided by a test.
one_after : {V : Type 0} (R : Rule V) (x : Answer V) (P : Type 0) (place n : ℕ) (v : V) (t : Bool) → OnlyFirst R x
    → ((p m : ℕ) (w : V) → R p m w → p < place) → Decides t P
    → OnlyFirst (Either R (One P place n v)) (first_refusal x (cond t (refused n v) allowed))
one_after R x P place n v t h before d =
    first_both R (One P place n v)
    (λ p o u q m w r s. let e = s.1 in let l = before p o u r in omega arith)
    x (cond t (refused n v) allowed) h (one_first P place n v t d)

-- A test turned round.
turned : (b : Bool) (x : Answer Value) → cond b allowed x ≡ cond (not b) x allowed
turned true x = refl
turned false x = refl

turned_decides : {P Q : Type 0} (b : Bool) → Decides b P → (Q → P → ⊥) → ((P → ⊥) → Q) → Decides (not b) Q
turned_decides true d out back = (λ e. absurd (false≢true e), λ q. absurd (out q (d.0 refl)))
turned_decides false d out back = (λ _. back (λ p. false≢true (d.1 p)), λ _. refl)

module _ (s : List ℕ) where
  pub partial_first : OnlyFirst (AppliesToPartial s) (partial_name s)
  unfolding partial_name
  partial_first =
      first_like (Either (Applies s) (One (s ≡ codes "@") (6 + length s) 13 (name s))) (AppliesToPartial s) to from
      (partial_name s)
      (one_after (Applies s) (tag_name s) (s ≡ codes "@") (6 + length s) 13 (name s) (bytes_eq s (codes "@")) (tag_first s)
      (tag_place s) (bytes_eq-Decides s (codes "@")))
    where
      to : (p n : ℕ) (v : Value) → Either (Applies s) (One (s ≡ codes "@") (6 + length s) 13 (name s)) p n v → AppliesToPartial s p n v
      to p n v (inl r) = as_tag r
      to p n v (inr r) =
          subst (λ q. AppliesToPartial s q n v) (sym r.1)
          (subst (λ m. AppliesToPartial s (6 + length s) m v) (sym r.2)
          (subst (λ w. AppliesToPartial s (6 + length s) 13 w) (sym r.3) (at_alone r.0)))

      from : (p n : ℕ) (v : Value) → AppliesToPartial s p n v → Either (Applies s) (One (s ≡ codes "@") (6 + length s) 13 (name s)) p n v
      from p n v (as_tag a) = inl a
      from p n v (at_alone h) = inr (h, refl, refl, refl)

  partial_place : (p n : ℕ) (v : Value) → AppliesToPartial s p n v → p < 7 + length s
  partial_place p n v (as_tag a) = let l = tag_place s p n v a in omega arith
  partial_place p n v (at_alone h) = omega arith

  -- A name that is not complete has no slash and is not of A to Z and underscores.
  abbrev OneLevel : Type 0
  OneLevel = (Contains s 47 → ⊥) × (All IsCapital s → ⊥)

  incomplete_decides : Decides (not (is_complete s)) OneLevel
  incomplete_decides =
      turned_decides (is_complete s)
      (Decides-or (has_slash s) (list_all is_capital s) (slash_decides s) (all_capital_decides s))
      (λ q. ⊎_elim q.0 q.1) (λ n. (λ a. n (inl a), λ a. n (inr a)))

  pub complete_first : OnlyFirst (AppliesToComplete s) (complete_name s)
  unfolding complete_name
  complete_first =
      first_like (Either (AppliesToPartial s) (One OneLevel (7 + length s) 12 nothing)) (AppliesToComplete s) to from
      (complete_name s)
      (subst (λ x. OnlyFirst (Either (AppliesToPartial s) (One OneLevel (7 + length s) 12 nothing)) (first_refusal (partial_name s) x))
      (sym (turned (is_complete s) (refused 12 nothing)))
      (one_after (AppliesToPartial s) (partial_name s) OneLevel (7 + length s) 12 nothing (not (is_complete s)) partial_first
      partial_place incomplete_decides))
    where
      to : (p n : ℕ) (v : Value) → Either (AppliesToPartial s) (One OneLevel (7 + length s) 12 nothing) p n v → AppliesToComplete s p n v
      to p n v (inl r) = as_partial r
      to p n v (inr r) =
          subst (λ q. AppliesToComplete s q n v) (sym r.1)
          (subst (λ m. AppliesToComplete s (7 + length s) m v) (sym r.2)
          (subst (λ w. AppliesToComplete s (7 + length s) 12 w) (sym r.3) (one_level r.0.0 r.0.1)))

      from : (p n : ℕ) (v : Value) → AppliesToComplete s p n v → Either (AppliesToPartial s) (One OneLevel (7 + length s) 12 nothing) p n v
      from p n v (as_partial a) = inl a
      from p n v (one_level h k) = inr ((h, k), refl, refl, refl)

  complete_place : (p n : ℕ) (v : Value) → AppliesToComplete s p n v → p < 8 + length s
  complete_place p n v (as_partial a) = let l = partial_place p n v a in omega arith
  complete_place p n v (one_level h k) = omega arith

  -- A name that no branch may have.
  abbrev Kept : Type 0
  Kept = (s ≡ codes "refs/heads/HEAD") ⊎ Begins (codes "refs/heads/-") s

  pub branch_first : OnlyFirst (AppliesToBranch s) (branch_name s)
  unfolding branch_name
  branch_first =
      first_like (Either (AppliesToComplete s) (One Kept (8 + length s) 13 (name s))) (AppliesToBranch s) to from
      (branch_name s)
      (one_after (AppliesToComplete s) (complete_name s) Kept (8 + length s) 13 (name s) (kept_from_branches s) complete_first
      complete_place
      (Decides-or (bytes_eq s (codes "refs/heads/HEAD")) (starts_with nat_eq s (codes "refs/heads/-"))
      (bytes_eq-Decides s (codes "refs/heads/HEAD")) (begins_decides (codes "refs/heads/-") s)))
    where
      to : (p n : ℕ) (v : Value) → Either (AppliesToComplete s) (One Kept (8 + length s) 13 (name s)) p n v → AppliesToBranch s p n v
      to p n v (inl r) = as_complete r
      to p n v (inr r) =
          subst (λ q. AppliesToBranch s q n v) (sym r.1)
          (subst (λ m. AppliesToBranch s (8 + length s) m v) (sym r.2)
          (subst (λ w. AppliesToBranch s (8 + length s) 13 w) (sym r.3) (⊎_elim head dash r.0)))

      from : (p n : ℕ) (v : Value) → AppliesToBranch s p n v → Either (AppliesToComplete s) (One Kept (8 + length s) 13 (name s)) p n v
      from p n v (as_complete a) = inl a
      from p n v (head h) = inr (inl h, refl, refl, refl)
      from p n v (dash h) = inr (inr h, refl, refl, refl)
