-- What each call of a register answers, and which state it leaves.
use Rattle.std.specs.Prelude.{ℕ, ◌+◌, Bool, false, if◌then◌else◌, not, ◌&&◌, List, [], ◌∷◌, length, Some, None, Option, nat_le}
use Rattle.std.specs.Str.{bytes_eq}
use Rattle.tag.specs.Components.{components}
use Rattle.tag.specs.Answers.{Answer}
use Rattle.tag.specs.Answers.Answer.{allowed, refused}
use Rattle.protections.specs.declared.rules.Mode.{Mode}
use Rattle.filesystems.specs.Keys.{Key}
use Rattle.meetings.specs.Meeting.{meet}
use Rattle.register_model.specs.Entries.{Entry, first_place, new_entry, place_of, put, slot, strike}
use Rattle.register_model.specs.declared.TheConstants.{CAPACITY, LONGEST_NAME}

-- What a register's rulebook and file system mean: the rulebook's kind, its ruling on each byte string and what it mends a
-- text to; the file system's verdict on a component and its mode, the components that lie together, and its keys.
pub record Meaning : Type 0 where
  pub kind : ℕ
  pub ruling : List ℕ → Answer ℕ
  pub mended : List ℕ → List ℕ
  pub verdict : List ℕ → Option Mode → Option ℕ
  pub together : List ℕ → List ℕ → Bool
  pub keys : List Key

-- A fault: of the rulebook, with its kind, number and value; of the file system, with the number and the index of the
-- component; or of the register, with the number and a place (0 where no place is meant).
pub data Fault : Type 0 where
  by_rulebook : ℕ → ℕ → ℕ → Fault
  by_component : ℕ → ℕ → Fault
  by_state : ℕ → ℕ → Fault

-- The number of a fault.
abbrev pub number_of : Fault → ℕ
number_of (by_rulebook k n v) = n
number_of (by_component n i) = n
number_of (by_state n p) = n

-- A call is accepted, with the place of the name, or refused.
pub data Outcome : Type 0 where
  accepted : ℕ → Outcome
  declined : Fault → Outcome

-- The verdict on a component at the index i, and else the fault that comes next.
abbrev pub or_else : Option ℕ → ℕ → Option Fault → Option Fault
or_else (Some n) i next = Some (by_component n i)
or_else None i next = next

-- The verdict on these components, the first of which has the index i: the leftmost that has one decides. The mode is the last
-- component's, and earlier ones have none.
unfoldable pub first_verdict :
    (List ℕ → Option Mode → Option ℕ) → Option Mode → ℕ → List (List ℕ) → Option Fault
first_verdict verdict mode i [] = None
first_verdict verdict mode i (c ∷ []) = or_else (verdict c mode) i None
first_verdict verdict mode i (c ∷ (d ∷ cs)) =
    or_else (verdict c None) i (first_verdict verdict mode (i + 1) (d ∷ cs))

-- The fault of a ruling, and else the fault that comes next.
abbrev pub ruling_fault : ℕ → Answer ℕ → Option Fault → Option Fault
ruling_fault kind allowed next = next
ruling_fault kind (refused n v) next = Some (by_rulebook kind n v)

-- What is wrong with a name and mode by themselves: 32 for a name that is too long, then the rulebook, then the verdicts.
unfoldable pub name_fault : Meaning → List ℕ → Option Mode → Option Fault
name_fault m x mode =
    if nat_le (length x) LONGEST_NAME
    then ruling_fault m.kind (m.ruling x) (first_verdict m.verdict mode 0 (components x))
    else Some (by_state 32 0)

-- The entries that are kept.
abbrev pub Kept : Type 0
Kept = List (Entry (Option Mode))

-- What a register keeps: its entries.
pub record State : Type 0 where
  pub kept : Kept

-- With no entry.
abbrev pub no_entries : State
no_entries = record { kept = [] }

-- Whether this is the name that is left aside, if any is.
abbrev pub left_aside : Option (List ℕ) → List ℕ → Bool
left_aside None x = false
left_aside (Some old) x = bytes_eq x old

-- The place of the first kept name that meets x; the name `aside`, if there is one, does not count.
unfoldable pub first_meeting : (List ℕ → List ℕ → Bool) → Option (List ℕ) → List ℕ → Kept → Option ℕ
first_meeting together aside x es =
    first_place (λ e. not (left_aside aside e.name) && meet together e.name x) es

-- The first fault, or else the answer that comes next.
abbrev pub unless_fault : Option Fault → Outcome → Outcome
unless_fault (Some f) next = declined f
unless_fault None next = next

-- 41 with the place, or else the answer that comes next.
abbrev pub unless_met : Option ℕ → Outcome → Outcome
unless_met (Some p) next = declined (by_state 41 p)
unless_met None next = next

-- 43 where the name has no place, or else the answer that comes next.
abbrev pub if_kept : Option ℕ → (ℕ → Outcome) → Outcome
if_kept None next = declined (by_state 43 0)
if_kept (Some p) next = next p

-- Enter: the name's faults, 41, 42.
unfoldable pub entering : Meaning → Kept → List ℕ → Option Mode → Outcome
entering m es x mode =
    unless_fault (name_fault m x mode)
    (unless_met (first_meeting m.together None x es)
    (if nat_le CAPACITY (length es) then declined (by_state 42 0) else accepted (slot x es)))

-- Offer: 32 for the text, and then its mended text is entered with no mode.
unfoldable pub offering : Meaning → Kept → List ℕ → Outcome
offering m es text =
    if nat_le (length text) LONGEST_NAME
    then entering m es (m.mended text) None
    else declined (by_state 32 0)

-- Rename: the new name's faults, 43 for the old name, 41 against all other names; the answer is the new name's place.
unfoldable pub renaming : Meaning → Kept → List ℕ → List ℕ → Option Mode → Outcome
renaming m es old new mode =
    unless_fault (name_fault m new mode)
    (if_kept (place_of old es)
    (λ _. unless_met (first_meeting m.together (Some old) new es)
    (accepted (slot new (strike old es)))))

-- Remove: 43; the answer is the place that the name had.
unfoldable pub removing : Kept → List ℕ → Outcome
removing es x = if_kept (place_of x es) accepted

-- A call with its arguments.
pub data Call : Type 0 where
  enter : List ℕ → ℕ → Option Mode → Call
  offer : List ℕ → ℕ → Call
  rename : List ℕ → List ℕ → Option Mode → Call
  remove : List ℕ → Call

-- The answer of a call.
abbrev pub answer : Meaning → State → Call → Outcome
answer m s (enter x n mode) = entering m s.kept x mode
answer m s (offer text n) = offering m s.kept text
answer m s (rename old new mode) = renaming m s.kept old new mode
answer m s (remove x) = removing s.kept x

-- The number of the entry with this name, 0 where there is none.
unfoldable pub number_at : List ℕ → Kept → ℕ
number_at x [] = 0
number_at x (e ∷ es) = if bytes_eq e.name x then e.number else number_at x es

-- The state after an accepted call.
abbrev pub changed : Meaning → State → Call → State
changed m s (enter x n mode) = record { kept = put (new_entry x n mode) s.kept }
changed m s (offer text n) = record { kept = put (new_entry (m.mended text) n None) s.kept }
changed m s (rename old new mode) =
    record { kept = put (new_entry new (number_at old s.kept) mode) (strike old s.kept) }
changed m s (remove x) = record { kept = strike x s.kept }

-- The state after a call: a refused one changes nothing.
abbrev pub after_by : Outcome → State → State → State
after_by (accepted p) before after = after
after_by (declined f) before after = before

abbrev pub state_after : Meaning → State → Call → State
state_after m s call = after_by (answer m s call) s (changed m s call)
