-- What a caller learns from what is said of the place that a call answers.
use Rattle.std.proofs.Common.{◌≡◌, ◌≢◌, ℕ, ◌+◌, List, [], ◌∷◌, ◌++◌, Some, Option, Ok, Err, Result, IfOk, OnErr, Contains, length, length-append, append_assoc, sym, refl, ap, subst, ◌∙◌, inl, ⊎_elim, arith}
use Rattle.std.specs.List.{slice_get}
use Rattle.std.proofs.lemmas.List.Elements.{Contains-append_cases, Contains-append_left, Contains-append_right, Contains-push, Contains-push_cases}
use Rattle.protections.specs.declared.rules.Mode.{Mode}
use Rattle.register_model.specs.Calls.{Kept, Meaning}
use Rattle.register_model.specs.Claim.{Apart}
use Rattle.register_model.specs.Entries.{Entry, new_entry}
use Rattle.register_model.specs.Reasons.{IfAccepted, OneMore}
use Rattle.register.specs.Faults.{outcome_of}
use Rattle.register.specs.declared.faults.Fault.{Fault}

-- A result that is not looked at: what follows where the call was accepted, and what follows either way.

pub if_ok : (r : Result ℕ Fault) (P Q : ℕ → Type 0) → IfAccepted (outcome_of r) P → ((p : ℕ) → P p → Q p) → IfOk r Q
if_ok (Ok p) P Q placed f = f p placed
if_ok (Err e) P Q placed f = tt

pub either_way : (r : Result ℕ Fault) (P : ℕ → Type 0) (Q S : Type 0) → IfAccepted (outcome_of r) P → OnErr r Q
    → ((p : ℕ) → P p → S) → (Q → S) → S
either_way (Ok p) P Q S placed unaltered f g = f p placed
either_way (Err e) P Q S placed unaltered f g = g unaltered

-- An entry between two lists stands at the place that the first one ends at.
between : (front back : Kept) (e : Entry (Option Mode)) → slice_get (front ++ e ∷ back) (length front) ≡ Some e
between [] back e = refl
between (d ∷ front) back e = between front back e

-- The one entry of a list.
only : (d e : Entry (Option Mode)) → Contains (d ∷ []) e → d ≡ e
only d e c = ⊎_elim (λ n. let below = n.1 in absurd (omega arith)) (λ s. s) (Contains-push_cases [] d e c)

-- The entries before an entry and those after it.
around : (es : Kept) (e : Entry (Option Mode)) → Contains es e
    → (front : Kept) × (back : Kept) × (es ≡ front ++ e ∷ back)
around [] e c = let below = c.1 in absurd (omega arith)
around (d ∷ es) e c =
    ⊎_elim
    (λ s. ([], es, ap (λ z. z ∷ es) (only d e s)))
    (λ m. let rest = around es e m in (d ∷ rest.0, rest.1, ap (λ zs. d ∷ zs) rest.2))
    (Contains-append_cases (d ∷ []) es e c)

-- Of two lists of entries one has one entry more.
module _ {x : List ℕ} {n p : ℕ} {mode : Option Mode} {fewer more : Kept} (one : OneMore x n mode p fewer more) where
  -- It has that entry, at its place, and is longer by one.
  pub it_stands : Contains more (new_entry x n mode)
  it_stands =
      let it = new_entry x n mode in
      subst (λ es. Contains es it) (sym one.with_it)
      (Contains-append_right one.front (it ∷ one.back) it
      (Contains-append_left (it ∷ []) one.back it (Contains-push [] it)))

  pub at_place : slice_get more p ≡ Some (new_entry x n mode)
  at_place = rw (one.with_it, ← one.place) (between one.front one.back (new_entry x n mode))

  pub longer : length more ≡ length fewer + 1
  longer = rw (one.with_it, one.without) (simp length-append (omega arith))

  -- The others are in both lists.
  pub with_others : (e : Entry (Option Mode)) → Contains fewer e → Contains more e
  with_others e c =
      let it = new_entry x n mode in
      subst (λ es. Contains es e) (sym one.with_it)
      (⊎_elim
      (Contains-append_left one.front (it ∷ one.back) e)
      (λ r. Contains-append_right one.front (it ∷ one.back) e (Contains-append_right (it ∷ []) one.back e r))
      (Contains-append_cases one.front one.back e (subst (λ es. Contains es e) one.without c)))

  pub without_it : (e : Entry (Option Mode)) → Contains more e → e.name ≢ x → Contains fewer e
  without_it e c other =
      let it = new_entry x n mode in
      subst (λ es. Contains es e) (sym one.without)
      (⊎_elim
      (Contains-append_left one.front one.back e)
      (λ r.
      ⊎_elim
      (λ s. absurd (other (ap (λ z. z.name) (sym (only it e s)))))
      (Contains-append_right one.front one.back e)
      (Contains-append_cases (it ∷ []) one.back e r))
      (Contains-append_cases one.front (it ∷ one.back) e (subst (λ es. Contains es e) one.with_it c)))

  -- Where no two names meet, none of the others has its name.
  pub differs : (m : Meaning) → Apart m more → (e : Entry (Option Mode)) → Contains fewer e → e.name ≢ x
  differs m apart e c named =
      let it = new_entry x n mode in
      ⊎_elim
      (λ l.
      let f = around one.front e l in
      apart.no_two_meet f.0 f.1 one.back e it
      (one.with_it ∙ (ap (λ es. es ++ it ∷ one.back) f.2 ∙ append_assoc f.0 (e ∷ f.1) (it ∷ one.back))) (inl named))
      (λ r.
      let b = around one.back e r in
      apart.no_two_meet one.front b.0 b.1 it e (one.with_it ∙ ap (λ es. one.front ++ it ∷ es) b.2) (inl (sym named)))
      (Contains-append_cases one.front one.back e (subst (λ es. Contains es e) one.without c))
