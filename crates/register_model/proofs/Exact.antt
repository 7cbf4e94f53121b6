-- When a call of a run is refused, said of the tally, from the reason for its answer.
use Rattle.std.proofs.Common.{◌≡◌, ℕ, ◌≤◌, true, false, not, ◌⊎◌, List, length, Some, None, Option, sym, refl, ◌∙◌, subst, inl, inr, ⊎_elim, arith}
use Rattle.std.specs.Prelude.{◌↔◌, IsTrue}
use Rattle.std.proofs.lemmas.Bool.{false≢true}
use Rattle.std.specs.List.{Contains}
use Rattle.tag.proofs.Members.{among_at, among_contains, contains_among}
use Rattle.tag.specs.Answers.Answer.{allowed, refused}
use Rattle.protections.specs.declared.rules.Mode.{Mode}
use Rattle.register_model.specs.Calls.{Fault, Kept, Meaning, Outcome, offering}
use Rattle.register_model.specs.Calls.Fault.{by_rulebook}
use Rattle.register_model.specs.Calls.Outcome.{declined}
use Rattle.register_model.specs.Claim.{HasVerdict, MendingLaws, was_accepted}
use Rattle.register_model.specs.Reasons.{Enters, IsFit, IsNamed, IsUnfit, MeetsFirst, NoneMeets, NoneNamed, Offers, Removes, Renames, SomeMeets}
use Rattle.register_model.specs.declared.TheConstants.{CAPACITY, LONGEST_NAME}
use Rattle.register_model.proofs.Becauses.{offer_because}
use Rattle.register_model.proofs.Steps.{named_among}
use Rattle.register_model.proofs.Tallies.{Sound}
use Rattle.register_model.proofs.Verdicts.{verdict_not_passed}

-- A refused call, for a fact that holds, and an accepted one, for a fact that does not.
refused_for : {P : Type 0} → P → IsTrue true ↔ P
refused_for p = (λ _. p, λ _. refl)

accepted_unless : {P : Type 0} → (P → ⊥) → IsTrue false ↔ P
accepted_unless n = (λ h. absurd (false≢true h), λ k. absurd (n k))

-- A fit name is not unfit.
pub fit_not_unfit : {m : Meaning} {x : List ℕ} {mode : Option Mode} {f : Fault} → IsFit m x mode → IsUnfit m x mode f → ⊥
fit_not_unfit fit (IsUnfit.too_long l) = omega (arith, fit.short)
fit_not_unfit fit (IsUnfit.against_rules l r) = let a = fit.allowed_by_rules in let q : refused _ _ ≡ allowed = sym r ∙ a in cc
fit_not_unfit fit (IsUnfit.not_passed l r v) = verdict_not_passed _ _ _ _ _ v fit.passed

module _ (m : Meaning) (es t : Kept) (sound : Sound m es t) where
  -- What holds of a kept entry holds of one of the tally, and the other way round.
  module _ (x : List ℕ) (aside : Option (List ℕ)) where
    first_some : (p : ℕ) → MeetsFirst m.together aside x es p → SomeMeets m.together aside x t
    first_some p first =
        let k = subst (λ l. Contains l first.entry) (sym first.parts) (contains_among _ _ (among_at first.before first.entry first.after)) in
        (first.entry, contains_among t _ (sound.no_more _ (among_contains es _ k)), first.meets)

    none_some : NoneMeets m.together aside x es → SomeMeets m.together aside x t → ⊥
    none_some none some = none some.0 (contains_among es _ (sound.put_in _ (among_contains t _ some.1))) some.2

  named_none : (x : List ℕ) → IsNamed x es → NoneNamed x t → ⊥
  named_none x n none =
      let k = named_among x es n in none k.0 (contains_among t _ (sound.no_more _ k.1)) k.2

  none_named : (x : List ℕ) → NoneNamed x es → NoneNamed x t
  none_named x none e k = none e (contains_among es _ (sound.put_in _ (among_contains t e k)))

  -- An enter of a fit name.
  pub enter_exact : (x : List ℕ) (mode : Option Mode) {o : Outcome} → Enters m es x mode o → IsFit m x mode
      → IsTrue (not (was_accepted o)) ↔ (SomeMeets m.together None x t ⊎ (CAPACITY ≤ length t))
  enter_exact x mode (Enters.unfit u) fit = absurd (fit_not_unfit fit u)
  enter_exact x mode (Enters.met {p} f first) fit = refused_for (inl (first_some x None p first))
  enter_exact x mode (Enters.full f none full) fit = refused_for (inr (omega (arith, sound.as_many)))
  enter_exact x mode (Enters.entered {p} f none room) fit =
      accepted_unless (⊎_elim (none_some x None none) (λ l. omega (arith, sound.as_many)))

  -- A rename to a fit name.
  pub rename_exact : (old new : List ℕ) (mode : Option Mode) {o : Outcome} → Renames m es old new mode o → IsFit m new mode
      → IsTrue (not (was_accepted o)) ↔ (NoneNamed old t ⊎ SomeMeets m.together (Some old) new t)
  rename_exact old new mode (Renames.unfit u) fit = absurd (fit_not_unfit fit u)
  rename_exact old new mode (Renames.not_kept f none) fit = refused_for (inl (none_named old none))
  rename_exact old new mode (Renames.met {p} f at first) fit = refused_for (inr (first_some new (Some old) p first))
  rename_exact old new mode (Renames.renamed {p} f at none) fit =
      accepted_unless (⊎_elim (named_none old at) (none_some new (Some old) none))

  -- A remove.
  pub remove_exact : (x : List ℕ) {o : Outcome} → Removes es x o → IsTrue (not (was_accepted o)) ↔ NoneNamed x t
  remove_exact x (Removes.not_kept none) = refused_for (none_named x none)
  remove_exact x (Removes.removed {p} at) = accepted_unless (named_none x (p, at))

  -- An enter of a name that is short enough and that the rulebook allows.
  enter_allowed : (x : List ℕ) (mode : Option Mode) {o : Outcome} → Enters m es x mode o → length x ≤ LONGEST_NAME → m.ruling x ≡ allowed
      → IsTrue (not (was_accepted o)) ↔ ((SomeMeets m.together None x t ⊎ (CAPACITY ≤ length t)) ⊎ HasVerdict m x mode)
  enter_allowed x mode (Enters.unfit u) l a = refused_for (inr (verdict_of u))
    where
      verdict_of : {f : Fault} → IsUnfit m x mode f → HasVerdict m x mode
      verdict_of (IsUnfit.too_long k) = absurd (omega (arith, l))
      verdict_of (IsUnfit.against_rules k q) = let w : refused _ _ ≡ allowed = sym q ∙ a in cc
      verdict_of (IsUnfit.not_passed {n} {i} k q v) = (n, i, v)
  enter_allowed x mode (Enters.met {p} f first) l a = refused_for (inl (inl (first_some x None p first)))
  enter_allowed x mode (Enters.full f none full) l a = refused_for (inl (inr (omega (arith, sound.as_many))))
  enter_allowed x mode (Enters.entered {p} f none room) l a =
      accepted_unless
      (⊎_elim (⊎_elim (none_some x None none) (λ k. omega (arith, sound.as_many))) (λ v. verdict_not_passed m x mode _ _ v.2 f.passed))

  -- An offer whose mended text the rulebook allows.
  pub offer_exact : (text : List ℕ) {o : Outcome} → Offers m es text o → length text ≤ LONGEST_NAME → MendingLaws m.ruling m.mended
      → IsTrue (not (was_accepted o))
      ↔ ((SomeMeets m.together None (m.mended text) t ⊎ (CAPACITY ≤ length t)) ⊎ HasVerdict m (m.mended text) None)
  offer_exact text (Offers.too_long k) l mending = absurd (omega (arith, l))
  offer_exact text (Offers.mended k why) l mending =
      enter_allowed (m.mended text) None why (omega (arith, mending.no_longer text, l)) (mending.always_allowed text)

-- An enter of a name that the rulebook allows is not refused by the rulebook.
enter_pass : {m : Meaning} {es : Kept} {x : List ℕ} {mode : Option Mode} {o : Outcome} → Enters m es x mode o → m.ruling x ≡ allowed
    → (k n v : ℕ) → o ≡ declined (by_rulebook k n v) → ⊥
enter_pass (Enters.unfit (IsUnfit.too_long l)) a k n v e = cc
enter_pass (Enters.unfit (IsUnfit.against_rules l r)) a k n v e = let w : refused _ _ ≡ allowed = sym r ∙ a in cc
enter_pass (Enters.unfit (IsUnfit.not_passed l r w)) a k n v e = cc
enter_pass (Enters.met f first) a k n v e = cc
enter_pass (Enters.full f none full) a k n v e = cc
enter_pass (Enters.entered f none room) a k n v e = cc

-- Nor is an offer whose mended text the rulebook allows, from the reason for its answer.
pub offer_spared : {m : Meaning} {es : Kept} {text : List ℕ} {o : Outcome} → Offers m es text o → m.ruling (m.mended text) ≡ allowed
    → (k n v : ℕ) → o ≡ declined (by_rulebook k n v) → ⊥
offer_spared (Offers.too_long l) a k n v e = cc
offer_spared (Offers.mended l why) a k n v e = enter_pass why a k n v e

-- The same of what an offer answers.
pub offering_spared : (m : Meaning) (es : Kept) (text : List ℕ) → m.ruling (m.mended text) ≡ allowed
    → (k n v : ℕ) → offering m es text ≡ declined (by_rulebook k n v) → ⊥
offering_spared m es text a = offer_spared (offer_because m es text) a

-- So no offer is, where the rulebook mends.
pub offer_pass : {m : Meaning} {es : Kept} {text : List ℕ} {o : Outcome} → Offers m es text o → MendingLaws m.ruling m.mended
    → (k n v : ℕ) → o ≡ declined (by_rulebook k n v) → ⊥
offer_pass {text = text} why mending = offer_spared why (mending.always_allowed text)
