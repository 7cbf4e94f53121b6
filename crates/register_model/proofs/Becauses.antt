-- Each call is answered for the reason that is given in words.
use Rattle.std.proofs.Common.{◌≡◌, ℕ, ◌≤◌, Bool, true, false, cond, leb, List, length, Some, None, Option, refl}
use Rattle.std.proofs.lemmas.Bool.{leb-false, leb-true}
use Rattle.tag.specs.Components.{components}
use Rattle.tag.specs.Answers.{Answer}
use Rattle.tag.specs.Answers.Answer.{allowed, refused}
use Rattle.protections.specs.declared.rules.Mode.{Mode}
use Rattle.register_model.specs.Entries.{place_of, slot, strike}
use Rattle.register_model.specs.Calls.{Call, Fault, Kept, Meaning, State, answer, entering, first_meeting, first_verdict, if_kept, name_fault, offering, removing, renaming, ruling_fault, unless_fault, unless_met}
use Rattle.register_model.specs.Calls.Call.{enter, offer, remove, rename}
use Rattle.register_model.specs.Calls.Fault.{by_state}
use Rattle.register_model.specs.Calls.Outcome.{accepted, declined}
use Rattle.register_model.specs.Reasons.{Because, Enters, IsFirstMeeting, IsFit, IsNamed, IsUnfit, Offers, Removes, Renames, StandsAt}
use Rattle.register_model.specs.declared.TheConstants.{CAPACITY, LONGEST_NAME}
use Rattle.register_model.proofs.Firsts.{first_found}
use Rattle.register_model.proofs.Places.{stands_at}
use Rattle.register_model.proofs.Verdicts.{passes_from, verdict_from}

module _ (m : Meaning) (x : List ℕ) (mode : Option Mode) where
  -- What a check of a name by itself says: it is fit, or this is wrong with it.
  abbrev pub Says : Option Fault → Type 0
  Says None = IsFit m x mode
  Says (Some f) = IsUnfit m x mode f

  module _ (short : length x ≤ LONGEST_NAME) where
    by_verdicts : m.ruling x ≡ allowed → (o : Option Fault) → first_verdict m.verdict mode 0 (components x) ≡ o → Says o
    by_verdicts a None e = record { short = short; allowed_by_rules = a; passed = passes_from m x mode e }
    by_verdicts a (Some f) e = let v = verdict_from m x mode f e in rw v.3 (IsUnfit.not_passed short a v.2)

    by_ruling : (r : Answer ℕ) → m.ruling x ≡ r → Says (ruling_fault m.kind r (first_verdict m.verdict mode 0 (components x)))
    by_ruling allowed e = by_verdicts e _ refl
    by_ruling (refused n v) e = IsUnfit.against_rules short e

  by_length : (b : Bool) → leb (length x) LONGEST_NAME ≡ b
      → Says (cond b (ruling_fault m.kind (m.ruling x) (first_verdict m.verdict mode 0 (components x))) (Some (by_state 32 0)))
  by_length true e = by_ruling (leb-true (length x) LONGEST_NAME e) _ refl
  by_length false e = IsUnfit.too_long (leb-false (length x) LONGEST_NAME e)

  pub says : Says (name_fault m x mode)
  unfolding name_fault
  says = by_length _ refl

module _ (m : Meaning) (es : Kept) where
  module _ (x : List ℕ) (mode : Option Mode) where
    enters_room : IsFit m x mode → IsFirstMeeting m.together None x es None → (b : Bool) → leb CAPACITY (length es) ≡ b
        → Enters m es x mode (cond b (declined (by_state 42 0)) (accepted (slot x es)))
    enters_room fit none true e = Enters.full fit none (leb-true CAPACITY (length es) e)
    enters_room fit none false e = Enters.entered fit none (leb-false CAPACITY (length es) e)

    enters_met : IsFit m x mode → (o : Option ℕ) → IsFirstMeeting m.together None x es o
        → Enters m es x mode (unless_met o (cond (leb CAPACITY (length es)) (declined (by_state 42 0)) (accepted (slot x es))))
    enters_met fit None none = enters_room fit none _ refl
    enters_met fit (Some p) first = Enters.met fit first

    enters_name : (o : Option Fault) → Says m x mode o
        → Enters m es x mode
        (unless_fault o
        (unless_met (first_meeting m.together None x es) (cond (leb CAPACITY (length es)) (declined (by_state 42 0)) (accepted (slot x es)))))
    enters_name None fit = enters_met fit _ (first_found m.together None x es)
    enters_name (Some f) unfit = Enters.unfit unfit

    pub enter_because : Enters m es x mode (entering m es x mode)
    unfolding entering
    enter_because = enters_name _ (says m x mode)

  offers_long : (text : List ℕ) (b : Bool) → leb (length text) LONGEST_NAME ≡ b
      → Offers m es text (cond b (entering m es (m.mended text) None) (declined (by_state 32 0)))
  offers_long text true e = Offers.mended (leb-true (length text) LONGEST_NAME e) (enter_because (m.mended text) None)
  offers_long text false e = Offers.too_long (leb-false (length text) LONGEST_NAME e)

  pub offer_because : (text : List ℕ) → Offers m es text (offering m es text)
  unfolding offering
  offer_because text = offers_long text _ refl

  module _ (old new : List ℕ) (mode : Option Mode) where
    renames_met : IsFit m new mode → IsNamed old es → (o : Option ℕ) → IsFirstMeeting m.together (Some old) new es o
        → Renames m es old new mode (unless_met o (accepted (slot new (strike old es))))
    renames_met fit at None none = Renames.renamed fit at none
    renames_met fit at (Some p) first = Renames.met fit at first

    renames_kept : IsFit m new mode → (o : Option ℕ) → StandsAt old es o
        → Renames m es old new mode
        (if_kept o (λ _. unless_met (first_meeting m.together (Some old) new es) (accepted (slot new (strike old es)))))
    renames_kept fit None none = Renames.not_kept fit none
    renames_kept fit (Some q) at = renames_met fit (q, at) _ (first_found m.together (Some old) new es)

    renames_name : (o : Option Fault) → Says m new mode o
        → Renames m es old new mode
        (unless_fault o
        (if_kept (place_of old es)
        (λ _. unless_met (first_meeting m.together (Some old) new es) (accepted (slot new (strike old es))))))
    renames_name None fit = renames_kept fit _ (stands_at old es)
    renames_name (Some f) unfit = Renames.unfit unfit

    pub rename_because : Renames m es old new mode (renaming m es old new mode)
    unfolding renaming
    rename_because = renames_name _ (says m new mode)

removes_kept : (es : Kept) (x : List ℕ) (o : Option ℕ) → StandsAt x es o → Removes es x (if_kept o accepted)
removes_kept es x None none = Removes.not_kept none
removes_kept es x (Some p) at = Removes.removed at

pub remove_because : (es : Kept) (x : List ℕ) → Removes es x (removing es x)
unfolding removing
remove_because es x = removes_kept es x _ (stands_at x es)

-- Every call.
pub because : (m : Meaning) (s : State) (c : Call) → Because m s c (answer m s c)
because m s (enter x n mode) = enter_because m s.kept x mode
because m s (offer text n) = offer_because m s.kept text
because m s (rename old new mode) = rename_because m s.kept old new mode
because m s (remove x) = remove_because s.kept x
