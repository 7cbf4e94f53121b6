-- Lemmas for the laws that src/ proves: a name is allowed where its rules are kept, an allowed name has no empty component, and which
-- values refusals have. They stand here since src/ cites them; nothing in them has to be believed.
use Rattle.std.specs.Prelude.{◌≡◌, ◌↔◌, ℕ, ◌+◌, Bool, true, false, if◌then◌else◌, List, [], ◌∷◌, ◌++◌, length, codes, ◌==◌, ◌≢◌, Contains, refl}
use Rattle.std.specs.Str.{byte}
use Rattle.std.proofs.Common.{ap, subst, arith}
use Rattle.std.specs.List.{AllByRecursion}
use Rattle.tag.specs.Answers.{Answer, IsFirst, Value, first_refusal}
use Rattle.tag.specs.Answers.Answer.{allowed, refused}
use Rattle.tag.specs.Components.{components}
use Rattle.tag.specs.Fronts.{Ends, Lacks}
use Rattle.tag.specs.Manual.{Rules}
use Rattle.tag.specs.Names.{tag_name}
use Rattle.tag.specs.Refusals.{Applies, AppliesAt}
use Rattle.tag.specs.Refusals.Applies.{no_byte, slash_last, slash_first, at_byte, lock_last, dot_first, dot_last}
use Rattle.tag.specs.Refusals.AppliesAt.{forbidden, slash_after_slash, dot_after_dot, slash_after_lock, brace_after_at, asterisk, dot_after_slash}
use Rattle.tag.proofs.Members.{among_contains, each_from_all}
use Rattle.tag.proofs.Parts.{Parts, split}
use Rattle.tag.proofs.Parts.Parts.{ends, slash, other}
use Rattle.tag.proofs.TagRefusals.{tag_first}
use Rattle.reference.specs.Names.{branch_name, complete_name, partial_name}
use Rattle.reference.specs.Refusals.{AppliesToBranch, AppliesToComplete, AppliesToPartial}
use Rattle.reference.specs.Refusals.AppliesToBranch.{as_complete, dash, head}
use Rattle.reference.specs.Refusals.AppliesToComplete.{as_partial, one_level}
use Rattle.reference.specs.Refusals.AppliesToPartial.{as_tag, at_alone}
use Rattle.reference.proofs.ReferenceRefusals.{branch_first, complete_first, partial_first}
use Rattle.rulebooks.specs.Rulings.{IsValueFor, as_number, ruling}
use Rattle.rulebooks.specs.Kinds.{component_ruling, leftmost}
use Rattle.tag.specs.Components.{is_relative}

-- A ruling allows only where the answer does.
pub ruling_allows : (a : Answer Value) → ruling a ≡ allowed → a ≡ allowed
ruling_allows allowed h = refl
ruling_allows (refused n v) h = let z : ◌≡◌ {A = ℕ} 0 1 = cc in absurd (omega arith)

-- Where an answer allows exactly by the rules P, so does its ruling.
pub rules_decided : {P : Type 0} (a : Answer Value) → (a ≡ allowed → P) × (P → a ≡ allowed) → (ruling a ≡ allowed) ↔ P
rules_decided a decides = (λ e. decides.0 (ruling_allows a e), λ kept. ap ruling (decides.1 kept))

-- c has a byte.
abbrev HasByte : List ℕ → Type 0
HasByte c = c ≡ [] → ⊥

-- What has a first byte is not empty.
cons_has_byte : (b : ℕ) (c : List ℕ) → HasByte (b ∷ c)
cons_has_byte b c e = let z : ◌≡◌ {A = ℕ} 0 1 = cc in omega arith

-- Where s, with the byte a before it, has no two slashes side by side and none at its end, each component has a byte, the
-- first one if a slash stands before it.
parts_have_bytes : {s c : List ℕ} {cs : List (List ℕ)} → Parts s c cs → (a : ℕ) → Lacks (codes "//") (a ∷ s)
    → (Ends (codes "/") (a ∷ s) → ⊥) → (a ≡ byte "/" → HasByte c) × AllByRecursion HasByte cs
parts_have_bytes ends a l n = (λ e _. n ([], ap (λ x. x ∷ []) e), tt)
parts_have_bytes (slash {s} p) a l n =
    let r = parts_have_bytes p (byte "/") (λ f t e. l (a ∷ f) t (ap (λ x. a ∷ x) e)) (λ e. n (a ∷ e.0, ap (λ x. a ∷ x) e.1)) in
    (λ e _. l [] s (ap (λ x. x ∷ (byte "/" ∷ s)) e), (r.0 refl, r.1))
parts_have_bytes (other {b} {s} {c} k p) a l n =
    let r = parts_have_bytes p b (λ f t e. l (a ∷ f) t (ap (λ x. a ∷ x) e)) (λ e. n (a ∷ e.0, ap (λ x. a ∷ x) e.1)) in
    (λ _. cons_has_byte b c, r.1)

-- A name that keeps the rules has no two slashes side by side and none at its end, also with a slash before it.
lacks_slashes : (s : List ℕ) → Rules s → Lacks (codes "//") (byte "/" ∷ s)
lacks_slashes s h [] t e = h.no_slash_first (t, (cc))
lacks_slashes s h (x ∷ f) t e = h.no_slashes f t (cc)

no_slash_ends : (s : List ℕ) → Rules s → (f : List ℕ) → byte "/" ∷ s ≢ f ++ codes "/"
no_slash_ends s h [] e = h.some_byte (cc)
no_slash_ends s h (x ∷ f) e = h.no_slash_last (f, (cc))

-- A name that keeps the rules has no empty component.
pub rules_no_empty : (s : List ℕ) → Rules s → (c : List ℕ) → Contains (components s) c → c ≢ []
rules_no_empty s h c m =
    let r = split s in
    let d = parts_have_bytes r.parts (byte "/") (lacks_slashes s h) (λ e. no_slash_ends s h e.0 e.1) in
    each_from_all HasByte (r.first ∷ r.others) (d.0 refl, d.1) c (among_contains (r.first ∷ r.others) c (subst (λ cs. Contains cs c) r.all m))

-- Where two rulings allow together, each allows.
both_allow : (x y : Answer ℕ) → first_refusal x y ≡ allowed → (x ≡ allowed) × (y ≡ allowed)
both_allow allowed y h = (refl, h)
both_allow (refused n v) y h = let z : ◌≡◌ {A = ℕ} 0 1 = cc in absurd (omega arith)

-- A component that is allowed has a byte.
component_has_byte : (i : ℕ) (c : List ℕ) → component_ruling i c ≡ allowed → HasByte c
component_has_byte i [] h = let z : ◌≡◌ {A = ℕ} 0 1 = cc in absurd (omega arith)
component_has_byte i (b ∷ c) h = cons_has_byte b c

-- Components that are allowed have a byte each.
leftmost_all : (i : ℕ) (cs : List (List ℕ)) → leftmost i cs ≡ allowed → AllByRecursion HasByte cs
unfolding leftmost
leftmost_all i [] h = tt
leftmost_all i (d ∷ cs) h =
    let p = both_allow (component_ruling i d) _ h in (component_has_byte i d p.0, leftmost_all (i + 1) cs p.1)

pub leftmost_no_empty : (i : ℕ) (cs : List (List ℕ)) → leftmost i cs ≡ allowed → (c : List ℕ) → Contains cs c → c ≢ []
leftmost_no_empty i cs h c m = each_from_all HasByte cs (leftmost_all i cs h) c (among_contains cs c m)

-- A ruling has a value that fits its number.
abbrev Fits : Answer ℕ → Type 0
Fits allowed = Unit {0}
Fits (refused n v) = IsValueFor n v

fits_first : (x y : Answer ℕ) → Fits x → Fits y → Fits (first_refusal x y)
fits_first allowed y p q = q
fits_first (refused n v) y p q = p

component_fits : (i : ℕ) (c : List ℕ) → Fits (component_ruling i c)
component_fits i c =
    fits_if (length c == 0) _ _ (λ a b d. absurd (b refl)) (fits_if (is_relative c) _ _ (λ a b d. absurd (d refl)) tt)
  where
    fits_if : (t : Bool) (x y : Answer ℕ) → Fits x → Fits y → Fits (if t then x else y)
    fits_if true x y p q = p
    fits_if false x y p q = q

leftmost_fits : (i : ℕ) (cs : List (List ℕ)) → Fits (leftmost i cs)
unfolding leftmost
leftmost_fits i [] = tt
leftmost_fits i (c ∷ cs) = fits_first (component_ruling i c) (leftmost (i + 1) cs) (component_fits i c) (leftmost_fits (i + 1) cs)

pub leftmost_value : (i : ℕ) (cs : List (List ℕ)) (n v : ℕ) → leftmost i cs ≡ refused n v → IsValueFor n v
leftmost_value i cs n v e = subst Fits e (leftmost_fits i cs)

-- Each rule for a byte carries a value that fits its number, and so does each for a tag name, a partial, a complete and a branch name.
byte_rule_fits : {front : List ℕ} {b n : ℕ} {v : Value} → AppliesAt front b n v → IsValueFor n (as_number v)
byte_rule_fits (forbidden h) = λ a c d. absurd (a refl)
byte_rule_fits (slash_after_slash h) = λ a c d. refl
byte_rule_fits (dot_after_dot h) = λ a c d. refl
byte_rule_fits (slash_after_lock h) = λ a c d. refl
byte_rule_fits (brace_after_at h) = λ a c d. refl
byte_rule_fits asterisk = λ a c d. refl
byte_rule_fits (dot_after_slash h) = λ a c d. refl

module _ (s : List ℕ) where
  tag_fits : (place n : ℕ) (v : Value) → Applies s place n v → IsValueFor n (as_number v)
  tag_fits place n v (no_byte h) = λ a c d. refl
  tag_fits place n v (slash_last h) = λ a c d. refl
  tag_fits place n v (slash_first h) = λ a c d. refl
  tag_fits place n v (at_byte front rest e h) = byte_rule_fits h
  tag_fits place n v (lock_last h k) = λ a c d. refl
  tag_fits place n v (dot_first h) = λ a c d. refl
  tag_fits place n v (dot_last h) = λ a c d. refl

  partial_fits : (place n : ℕ) (v : Value) → AppliesToPartial s place n v → IsValueFor n (as_number v)
  partial_fits place n v (as_tag h) = tag_fits place n v h
  partial_fits place n v (at_alone h) = λ a c d. refl

  complete_fits : (place n : ℕ) (v : Value) → AppliesToComplete s place n v → IsValueFor n (as_number v)
  complete_fits place n v (as_partial h) = partial_fits place n v h
  complete_fits place n v (one_level h k) = λ a c d. refl

  branch_fits : (place n : ℕ) (v : Value) → AppliesToBranch s place n v → IsValueFor n (as_number v)
  branch_fits place n v (as_complete h) = complete_fits place n v h
  branch_fits place n v (head h) = λ a c d. refl
  branch_fits place n v (dash h) = λ a c d. refl

-- So the ruling of an answer that the first of such rules gives has a value that fits.
first_fits : (applies : ℕ → ℕ → Value → Type 0) → ((place n : ℕ) (v : Value) → applies place n v → IsValueFor n (as_number v))
    → (x : Answer Value) → IsFirst applies x → Fits (ruling x)
first_fits applies each allowed h = tt
first_fits applies each (refused n v) h = each h.0 n v h.1

pub tag_value : (s : List ℕ) (n v : ℕ) → ruling (tag_name s) ≡ refused n v → IsValueFor n v
tag_value s n v e = subst Fits e (first_fits (Applies s) (tag_fits s) (tag_name s) (tag_first s).0)

pub partial_value : (s : List ℕ) (n v : ℕ) → ruling (partial_name s) ≡ refused n v → IsValueFor n v
partial_value s n v e = subst Fits e (first_fits (AppliesToPartial s) (partial_fits s) (partial_name s) (partial_first s).0)

pub complete_value : (s : List ℕ) (n v : ℕ) → ruling (complete_name s) ≡ refused n v → IsValueFor n v
complete_value s n v e = subst Fits e (first_fits (AppliesToComplete s) (complete_fits s) (complete_name s) (complete_first s).0)

pub branch_value : (s : List ℕ) (n v : ℕ) → ruling (branch_name s) ≡ refused n v → IsValueFor n v
branch_value s n v e = subst Fits e (first_fits (AppliesToBranch s) (branch_fits s) (branch_name s) (branch_first s).0)
