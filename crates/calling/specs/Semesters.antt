-- What the register of a campus says of its names, and what a semester changes in it.
use Rattle.std.specs.Prelude.{◌≡◌, ◌≢◌, ℕ, ◌+◌, ◌⊎◌, List, [], ◌∷◌, None, Some, Option}
use Rattle.std.specs.Prelude.{length, Contains, slice_get}
use Rattle.mending.specs.Mender.{mended}
use Rattle.protections.specs.declared.rules.Mode.{Mode}
use Rattle.register_model.specs.Calls.{Call, Kept, Meaning, Outcome, State, answer, state_after}
use Rattle.register_model.specs.Calls.Call.{enter, offer, remove, rename}
use Rattle.register_model.specs.Calls.Outcome.{accepted, declined}
use Rattle.register_model.specs.Entries.{Entry, new_entry}
use Rattle.register_model.specs.Reasons.{NoneNamed}
use Rattle.calling.specs.declared.Semester.{Semester}

-- The name is kept with the number of this owner.
abbrev pub IsOwned : List ℕ → ℕ → Kept → Type 0
IsOwned name owner es = (mode : Option Mode) × Contains es (new_entry name owner mode)

-- A refusal stands, and after an accepted call the next outcome counts.
abbrev pub unless_declined : Outcome → Outcome → Outcome
unless_declined (declined f) next = declined f
unless_declined (accepted p) next = next

-- Of calls that are made one after another the first refusal, or else what the last one answers.
unfoldable pub in_turn : Meaning → State → Call → List Call → Outcome
in_turn m s first [] = answer m s first
in_turn m s first (second ∷ rest) =
    unless_declined (answer m s first) (in_turn m (state_after m s first) second rest)

-- The same of the calls of a semester.
abbrev pub semester_outcome : Meaning → State → Semester → Outcome
semester_outcome m s semester =
    in_turn m s (remove semester.closed.now)
    (rename semester.old.now semester.new.now None
    ∷ enter semester.opened.now semester.owner None
    ∷ offer semester.title.now semester.owner
    ∷ [])

-- The semester gives this name.
abbrev pub Gives : Semester → List ℕ → Type 0
Gives semester name =
    (name ≡ semester.new.now)
    ⊎ ((name ≡ semester.opened.now) ⊎ (name ≡ mended semester.title.now))

-- All changes of the semester are made, and the handle stands at this place.
pub record HasBegun (semester : Semester) (before after : Kept) (place : ℕ) : Type 0 where
  -- the closed name was kept
  pub closed : (owner : ℕ) × IsOwned semester.closed.now owner before
  -- the new name has the owner that the old one had
  pub renamed :
      (owner : ℕ) × IsOwned semester.old.now owner before × IsOwned semester.new.now owner after
  pub opened : IsOwned semester.opened.now semester.owner after
  pub titled :
      slice_get after place ≡ Some (new_entry (mended semester.title.now) semester.owner None)
  -- the closed name and the old one stand no more, unless the semester gives them again
  pub gone :
      (name : List ℕ) → (name ≡ semester.closed.now) ⊎ (name ≡ semester.old.now)
      → (Gives semester name → ⊥) → NoneNamed name after
  -- one name goes and two come
  pub count : length after ≡ length before + 1

-- All entries but those of the closed name and of the old one stay as they are.
abbrev pub OthersStay : Semester → Kept → Kept → Type 0
OthersStay semester before after =
    (e : Entry (Option Mode)) → Contains before e
    → e.name ≢ semester.closed.now → e.name ≢ semester.old.now → Contains after e
