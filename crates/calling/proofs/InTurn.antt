-- What comes of calls that are made one after another on a register.
use Rattle.std.proofs.Common.{◌≡◌, ℕ, List, [], ◌∷◌, Ok, Err, Result, ap, ◌∙◌, subst, refl}
use Rattle.rulebooks.specs.declared.Rulebook as rulebook
use Rattle.filesystems.specs.declared.interface.FileSystem as interface
use Rattle.register_model.specs.Calls.{Call, Outcome, state_after}
use Rattle.register_model.specs.Calls.Outcome.{declined}
use Rattle.register.specs.Faults.{fault_in, outcome_of}
use Rattle.register.specs.Meanings.{meaning_of}
use Rattle.register.specs.Registers.{IsMade, meaning_in, state_in}
use Rattle.register.specs.declared.Register.{Register}
use Rattle.register.specs.declared.faults.Fault.{Fault}
use Rattle.calling.specs.Semesters.{in_turn, unless_declined}

module _ {R F : Type 0} {r : rulebook.Ghosts R} {f : interface.Ghosts F} (mended : List ℕ → List ℕ) (before after : Register R F r f) where
  -- A refused call ends them.
  pub refused : {call : Call} {fault : Fault} (rest : List Call) → IsMade mended before after call (Err fault)
      → declined (fault_in fault) ≡ in_turn (meaning_in mended before) (state_in before) call rest
  unfolding in_turn
  refused [] made = made.answer
  refused {call} {fault} (next ∷ rest) made =
      let m = meaning_in mended before in
      subst (λ a. declined (fault_in fault) ≡ unless_declined a (in_turn m (state_after m (state_in before) call) next rest)) made.answer refl

  -- The last call is answered as it is.
  pub the_last : {call : Call} {result : Result ℕ Fault} → IsMade mended before after call result
      → outcome_of result ≡ in_turn (meaning_in mended before) (state_in before) call []
  unfolding in_turn
  the_last made = made.answer

  -- An accepted call leaves the others to be made.
  pub and_then : {call : Call} {p : ℕ} {o : Outcome} (next : Call) (rest : List Call) → IsMade mended before after call (Ok p)
      → o ≡ in_turn (meaning_in mended after) (state_in after) next rest
      → o ≡ in_turn (meaning_in mended before) (state_in before) call (next ∷ rest)
  unfolding in_turn
  and_then {call} {p} {o} next rest made others =
      let m = meaning_in mended before in
      let left : o ≡ in_turn m (state_after m (state_in before) call) next rest
      = others ∙ (ap (λ z. in_turn (meaning_of r mended f z) (state_in after) next rest) made.same_rules.1 ∙ ap (λ z. in_turn m z next rest) made.state) in
      subst (λ a. o ≡ unless_declined a (in_turn m (state_after m (state_in before) call) next rest)) made.answer left
