-- Each check allows exactly the names that keep its rules.
use Rattle.std.proofs.Common.{◌≡◌, ℕ, Bool, true, false, cond, eqb, List, [], ◌∷◌, ◌++◌, length, take, drop, codes, Decides, sym, refl, ap, ◌∙◌, inl, inr, ⊎_elim, arith}
use Rattle.std.specs.Prelude.{All, Contains, nat_eq}
use Rattle.std.specs.List.{list_all, starts_with}
use Rattle.std.specs.Str.{bytes_eq}
use Rattle.std.proofs.lemmas.Slice.Eq.{bytes_eq-Decides}
use Rattle.std.proofs.lemmas.List.{take-append-drop, take_at}
use Rattle.std.proofs.lemmas.List.Elements.{All-cons, All-head, All-nil, All-tail}
use Rattle.std.proofs.lemmas.Bool.{and_from, and_parts, false≢true}
use Rattle.std.proofs.lemmas.Bool.Decides.{Decides-eqb, Decides-like, Decides-or, nat_tests}
use Rattle.tag.specs.Answers.{Answer, Value, first_refusal}
use Rattle.tag.specs.Answers.Answer.{allowed, refused}
use Rattle.tag.proofs.Members.{Among, among_contains, contains_among}
use Rattle.tag.specs.Fronts.{Begins}
use Rattle.tag.specs.Names.{tag_name}
use Rattle.tag.proofs.Rules.{rules_from_allowed, allowed_from_rules}
use Rattle.reference.specs.Errors.{refusal}
use Rattle.reference.specs.Manual.{BranchRules, CompleteRules, IsCapital, PartialRules}
use Rattle.reference.specs.Names.{branch_name, complete_name, has_slash, is_capital, is_complete, kept_from_branches, partial_name}
use Rattle.reference.specs.declared.Error.{Error}
use Rattle.reference.proofs.Deciding.{refusal_decides}

-- The check x allows exactly where P holds.
abbrev pub Allows : Answer Value → Type 0 → Type 0
Allows x P = (x ≡ allowed → P) × (P → x ≡ allowed)

-- A refusal does not allow.
never : (n : ℕ) (v : Value) → refused n v ≡ allowed → ⊥
never n v e = let z : ◌≡◌ {A = ℕ} 0 1 = cc in omega arith

-- An error does not allow.
pub error_never : (e : Error) → refusal e ≡ allowed → ⊥
error_never e p = never 0 Value.nothing (sym (ap (λ x. first_refusal x (refused 0 Value.nothing)) p) ∙ (refusal_decides e (refused 0 Value.nothing) ∙ p))

-- A call that gives the answer x answers Ok exactly where P holds.
pub decides_ok : {P : Type 0} (x : Answer Value) → allowed ≡ x → Allows x P → Decides true P
decides_ok x e h = (λ _. h.0 (sym e), λ _. refl)

pub decides_err : {P : Type 0} (d : Error) (x : Answer Value) → refusal d ≡ x → Allows x P → Decides false P
decides_err d x e h = (λ k. absurd (false≢true k), λ p. absurd (error_never d (e ∙ h.1 p)))

-- Two checks in this order, the second a test that must be false, or true.
allows_unless : {P Q : Type 0} (x : Answer Value) (t : Bool) (n : ℕ) (v : Value) → Allows x P → Decides t Q
    → Allows (first_refusal x (cond t (refused n v) allowed)) (P × (Q → ⊥))
allows_unless allowed true n v h d = (λ e. absurd (never n v e), λ p. absurd (p.1 (d.0 refl)))
allows_unless allowed false n v h d = (λ e. (h.0 refl, λ q. false≢true (d.1 q)), λ p. refl)
allows_unless (refused m w) t n v h d = (λ e. absurd (never m w e), λ p. h.1 p.0)

allows_if : {P Q : Type 0} (x : Answer Value) (t : Bool) (n : ℕ) (v : Value) → Allows x P → Decides t Q
    → Allows (first_refusal x (cond t allowed (refused n v))) (P × Q)
allows_if allowed true n v h d = (λ e. (h.0 refl, d.0 refl), λ p. refl)
allows_if allowed false n v h d = (λ e. absurd (never n v e), λ p. absurd (false≢true (d.1 p.1)))
allows_if (refused m w) t n v h d = (λ e. absurd (never m w e), λ p. h.1 p.0)

-- The tests decide what their names say.
slash_among : (s : List ℕ) → Decides (has_slash s) (Among 47 s)
slash_among [] = (λ e. false≢true e, λ m. absurd m)
slash_among (b ∷ s) =
    Decides-or (eqb b 47) (has_slash s) (Decides-like (eqb b 47) sym sym (Decides-eqb b 47)) (slash_among s)

pub slash_decides : (s : List ℕ) → Decides (has_slash s) (Contains s 47)
slash_decides s = Decides-like (has_slash s) (contains_among s 47) (among_contains s 47) (slash_among s)

capital_decides : (b : ℕ) → Decides (is_capital b) (IsCapital b)
capital_decides b = (λ e. grind (arith, nat_tests), λ h. grind (arith, nat_tests))

pub all_capital_decides : (s : List ℕ) → Decides (list_all is_capital s) (All IsCapital s)
all_capital_decides [] = (λ _. All-nil IsCapital, λ _. refl)
all_capital_decides (a ∷ s) =
    let here = capital_decides a in
    let rest = all_capital_decides s in (
      λ e. let p = and_parts (is_capital a) (list_all is_capital s) e in All-cons IsCapital a s (here.0 p.0) (rest.0 p.1),
      λ h. and_from (is_capital a) (list_all is_capital s) (here.1 (All-head IsCapital a s h)) (rest.1 (All-tail IsCapital a s h)),
    )

pub begins_decides : (w s : List ℕ) → Decides (starts_with nat_eq s w) (Begins w s)
begins_decides w s =
    let d = bytes_eq-Decides w (take (length w) s) in (
      λ e. (drop (length w) s, sym (take-append-drop (length w) s) ∙ ap (λ t. t ++ drop (length w) s) (sym (d.0 e))),
      λ b. d.1 (sym (ap (take (length w)) b.1 ∙ take_at w b.0 (length w) refl)),
    )

pub partial_allows : (s : List ℕ) → Allows (partial_name s) (PartialRules s)
unfolding partial_name
partial_allows s =
    let a = allows_unless (tag_name s) (bytes_eq s (codes "@")) 13 (Value.name s) (rules_from_allowed s, allowed_from_rules s) (bytes_eq-Decides s (codes "@")) in (
      λ e. let p = a.0 e in record { every = p.0; not_at = p.1 },
      λ p. a.1 (p.every, p.not_at),
    )

pub complete_allows : (s : List ℕ) → Allows (complete_name s) (CompleteRules s)
unfolding complete_name
complete_allows s =
    let a = allows_if (partial_name s) (is_complete s) 12 Value.nothing (partial_allows s)
    (Decides-or (has_slash s) (list_all is_capital s) (slash_decides s) (all_capital_decides s)) in (
      λ e. let p = a.0 e in record { partial = p.0; level = p.1 },
      λ p. a.1 (p.partial, p.level),
    )

pub branch_allows : (s : List ℕ) → Allows (branch_name s) (BranchRules s)
unfolding branch_name
branch_allows s =
    let a = allows_unless (complete_name s) (kept_from_branches s) 13 (Value.name s) (complete_allows s)
    (Decides-or (bytes_eq s (codes "refs/heads/HEAD")) (starts_with nat_eq s (codes "refs/heads/-"))
    (bytes_eq-Decides s (codes "refs/heads/HEAD")) (begins_decides (codes "refs/heads/-") s)) in (
      λ e. let p = a.0 e in record { complete = p.0; not_head = λ h. p.1 (inl h); no_dash = λ h. p.1 (inr h) },
      λ p. a.1 (p.complete, ⊎_elim p.not_head p.no_dash),
    )
