-- What a register holds and means, and what a call that is made on it says.
use Rattle.std.specs.Prelude.{◌≡◌, ℕ, List, OnErr, Result}
use Rattle.rulebooks.specs.declared.Rulebook as rulebook
use Rattle.filesystems.specs.declared.interface.FileSystem as interface
use Rattle.register_model.specs.Calls.{Call, Kept, Meaning, State, answer, state_after}
use Rattle.register_model.specs.Reasons.{Because, Placed}
use Rattle.register.specs.Faults.{outcome_of}
use Rattle.register.specs.Meanings.{meaning_of, state_with}
use Rattle.register.specs.declared.Register.{Register}
use Rattle.register.specs.declared.faults.Fault.{Fault}

module _ {R F : Type 0} {r : rulebook.Ghosts R} {f : interface.Ghosts F} where
  -- The entries, in the order of their places.
  abbrev pub entries_in : Register R F r f → Kept
  entries_in register = register.table

  -- The state.
  abbrev pub state_in : Register R F r f → State
  state_in register = state_with register.table

  -- What its rulebook and file system mean, with what a text is mended to.
  abbrev pub meaning_in : (List ℕ → List ℕ) → Register R F r f → Meaning
  meaning_in mended register = meaning_of r mended f register.files

  -- The second register has the rulebook and the file system of the first.
  abbrev pub SameRules : Register R F r f → Register R F r f → Type 0
  SameRules before after = (after.rules ≡ before.rules) × (after.files ≡ before.files)

  -- The call was made on the register `before` with this result, and left the register `after`; the rulebook mends so.
  pub record IsMade (mended : List ℕ → List ℕ) (before after : Register R F r f) (call : Call)
      (result : Result ℕ Fault) : Type 0 where
    -- the answer, and why it is that
    pub answer : outcome_of result ≡ answer (meaning_in mended before) (state_in before) call
    pub because : Because (meaning_in mended before) (state_in before) call (outcome_of result)
    -- the state that is left
    pub state : state_in after ≡ state_after (meaning_in mended before) (state_in before) call
    -- which entry came or went at the place answered, and that all others stay
    pub placed :
        Placed (meaning_in mended before) (state_in before) (state_in after) call
        (outcome_of result)
    pub same_rules : SameRules before after
    -- a refusal alters nothing
    pub unaltered : OnErr result (after ≡ before)
