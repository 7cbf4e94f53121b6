-- What holds of a register whatever calls led to it, and what holds of the calls, from a register with no entry.
use Rattle.std.specs.Prelude.{◌≡◌, ◌↔◌, ℕ, ◌<◌, ◌≤◌, max, Bool, true, false, not, ◌⊎◌, List, [], ◌∷◌, ◌++◌, length, Some, None, Option, Contains, IsTrue, slice_get, ◌≢◌}
use Rattle.tag.specs.Answers.{Answer}
use Rattle.tag.specs.Answers.Answer.{allowed}
use Rattle.protections.specs.declared.rules.Mode.{Mode}
use Rattle.filesystems.specs.Keys.{Key}
use Rattle.meetings.specs.Meeting.{Meets, keys_under}
use Rattle.tag.specs.Fronts.{Begins}
use Rattle.register_model.specs.Entries.{Ascends, Entry, new_entry, strike}
use Rattle.register_model.specs.Calls.{Call, Kept, Meaning, Outcome, State, answer, no_entries, number_at, state_after}
use Rattle.register_model.specs.Calls.Call.{enter, offer, remove, rename}
use Rattle.register_model.specs.Calls.Fault.{by_rulebook}
use Rattle.register_model.specs.Calls.Outcome.{accepted, declined}
use Rattle.register_model.specs.Reasons.{IsFit, NoneNamed, SomeMeets, VerdictAt}
use Rattle.register_model.specs.declared.TheConstants.{CAPACITY, LONGEST_NAME}

-- No two names kept at different places meet, and under every key neither's list of keys begins the other's.
pub record Apart (m : Meaning) (es : Kept) : Type 0 where
  pub no_two_meet :
      (p q r : Kept) (d e : Entry (Option Mode)) → es ≡ p ++ (d ∷ (q ++ (e ∷ r)))
      → Meets m.together d.name e.name → ⊥
  pub no_key_list_begins :
      (key : Key) → Contains m.keys key
      → (p q r : Kept) (d e : Entry (Option Mode)) → es ≡ p ++ (d ∷ (q ++ (e ∷ r)))
      → (Begins (keys_under key d.name) (keys_under key e.name) → ⊥)
      × (Begins (keys_under key e.name) (keys_under key d.name) → ⊥)

-- What holds of every register: its names ascend, are not too many and not too long, the rulebook allows each and the file
-- system passes each with its mode, and no two meet.
pub record Holds (m : Meaning) (s : State) : Type 0 where
  pub ascends : Ascends s.kept
  pub few : length s.kept ≤ CAPACITY
  pub fit : (e : Entry (Option Mode)) → Contains s.kept e → IsFit m e.name e.mode
  pub apart : Apart m s.kept

-- A plain tally: it is fed each call's arguments and whether the call was accepted, and knows nothing of order, rules or files.
abbrev pub fed : Meaning → State → Call → Bool → State
fed m t call false = t
fed m t (enter x n mode) true = record { kept = new_entry x n mode ∷ t.kept }
fed m t (offer text n) true = record { kept = new_entry (m.mended text) n None ∷ t.kept }
fed m t (rename old new mode) true =
    record { kept = new_entry new (number_at old t.kept) mode ∷ strike old t.kept }
fed m t (remove x) true = record { kept = strike x t.kept }

-- A call with its answer.
pub record Done : Type 0 where
  pub call : Call
  pub outcome : Outcome

abbrev pub was_accepted : Outcome → Bool
was_accepted (accepted p) = true
was_accepted (declined f) = false

-- The tally after these calls, the latest first.
unfoldable pub tally : Meaning → List Done → State
tally m [] = no_entries
tally m (d ∷ ds) = fed m (tally m ds) d.call (was_accepted d.outcome)

-- The entries are those of the tally, each at a place below the count, and no others.
pub record SameEntries (es t : Kept) : Type 0 where
  pub all_put_in :
      (e : Entry (Option Mode)) → Contains t e
      → (p : ℕ) × (p < length es) × (slice_get es p ≡ Some e)
  pub none_else : (e : Entry (Option Mode)) → Contains es e → Contains t e
  pub as_many : length es ≡ length t

-- The laws that a rulebook of these rulings keeps where it mends each text to this one.
pub record MendingLaws (ruling : List ℕ → Answer ℕ) (mended : List ℕ → List ℕ) : Type 0 where
  pub always_allowed : (x : List ℕ) → ruling (mended x) ≡ allowed
  pub no_longer : (x : List ℕ) → length (mended x) ≤ max 1 (length x)
  pub allowed_stays : (x : List ℕ) → ruling x ≡ allowed → mended x ≡ x

-- The calls ds, the latest first, took a register from the state `first` to the state s: each gave the answer that `answer`
-- says, and left the state that `state_after` says.
pub data Ran (m : Meaning) (first : State) : List Done → State → Type 0 where
  start : Ran m first [] first
  next : {ds : List Done} {s : State} → Ran m first ds s → (c : Call) (o : Outcome) (after : State)
      → o ≡ answer m s c → after ≡ state_after m s c
      → Ran m first (record { call = c; outcome = o } ∷ ds) after

-- Among the calls ds, the latest first, the call c had this answer, after the earlier ones.
abbrev pub Answered : List Done → Call → Outcome → List Done → Type 0
Answered ds c o earlier =
    (later : List Done) × (ds ≡ later ++ (record { call = c; outcome = o } ∷ earlier))

-- Some name of the tally meets x, or the tally is full.
abbrev pub MetOrFull : Meaning → List ℕ → State → Type 0
MetOrFull m x t = SomeMeets m.together None x t.kept ⊎ (CAPACITY ≤ length t.kept)

-- The file system refuses a component of x.
abbrev pub HasVerdict : Meaning → List ℕ → Option Mode → Type 0
HasVerdict m x mode = (n i : ℕ) × VerdictAt m x mode n i

-- What holds of the state s after the calls ds, the latest first, from a register with no entry.
pub record Claim (m : Meaning) (ds : List Done) (s : State) : Type 0 where
  -- the entries are those of the tally
  pub entries : SameEntries s.kept (tally m ds).kept
  -- what holds of every register
  pub holds : Holds m s
  -- an enter of a fit name was refused exactly when a kept name met it or the register was full
  pub enters_exact :
      (x : List ℕ) (n : ℕ) (mode : Option Mode) (o : Outcome) (earlier : List Done)
      → Answered ds (enter x n mode) o earlier → IsFit m x mode
      → IsTrue (not (was_accepted o)) ↔ MetOrFull m x (tally m earlier)
  -- a rename to a fit name was refused exactly when the old name was not kept or another kept name met the new one
  pub renames_exact :
      (old new : List ℕ) (mode : Option Mode) (o : Outcome) (earlier : List Done)
      → Answered ds (rename old new mode) o earlier → IsFit m new mode
      → IsTrue (not (was_accepted o))
      ↔ (NoneNamed old (tally m earlier).kept
      ⊎ SomeMeets m.together (Some old) new (tally m earlier).kept)
  -- a remove was refused exactly when the name was not kept
  pub removes_exact :
      (x : List ℕ) (o : Outcome) (earlier : List Done) → Answered ds (remove x) o earlier
      → IsTrue (not (was_accepted o)) ↔ NoneNamed x (tally m earlier).kept

-- What holds of the offers among the calls ds, where the rulebook mends.
pub record OffersClaim (m : Meaning) (ds : List Done) : Type 0 where
  -- none was refused by the rulebook
  pub offers_pass :
      (text : List ℕ) (n : ℕ) (o : Outcome) (earlier : List Done) (k i v : ℕ)
      → Answered ds (offer text n) o earlier → o ≢ declined (by_rulebook k i v)
  -- an allowed text was put in unchanged
  pub offers_unchanged :
      (text : List ℕ) (n : ℕ) (o : Outcome) (earlier : List Done)
      → Answered ds (offer text n) o earlier → m.ruling text ≡ allowed → was_accepted o ≡ true
      → Contains (tally m (record { call = offer text n; outcome = o } ∷ earlier)).kept
      (new_entry text n None)

-- An offer among the calls ds, from a register with no entry, whose text is not too long was refused exactly when a kept name met
-- its mended text, the register was full, or the file system refused the mended text.
abbrev pub OffersExact : Meaning → List Done → Type 0
OffersExact m ds =
    (text : List ℕ) (n : ℕ) (o : Outcome) (earlier : List Done)
    → Answered ds (offer text n) o earlier → length text ≤ LONGEST_NAME
    → IsTrue (not (was_accepted o))
    ↔ (MetOrFull m (m.mended text) (tally m earlier) ⊎ HasVerdict m (m.mended text) None)
