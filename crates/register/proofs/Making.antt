-- A refused call and an accepted one, as what is said of every call that is made.
use Rattle.std.proofs.Common.{◌≡◌, ℕ, List, ap, sym, refl, ◌∙◌, subst, Ok, Err}
use Rattle.rulebooks.specs.declared.Rulebook as rulebook
use Rattle.filesystems.specs.declared.interface.FileSystem as interface
use Rattle.register_model.specs.Calls.{Call, Fault, Meaning, State, answer, changed}
use Rattle.register_model.specs.Calls.Call.{enter, offer, remove, rename}
use Rattle.register_model.specs.Calls.Outcome.{accepted, declined}
use Rattle.register_model.specs.Reasons.{Because, Placed}
use Rattle.register_model.proofs.Becauses.{because}
use Rattle.register.specs.Faults.{fault_in}
use Rattle.register.specs.Registers.{IsMade, SameRules, entries_in, meaning_in, state_in}
use Rattle.register.specs.Meanings.{state_with}
use Rattle.register.specs.declared.Register.{Register}
use Rattle.register.specs.declared.faults.Fault as faults
use Rattle.register.proofs.Answering.{accepted_leaves, refused_leaves}

-- A refused call answers no place.
none_placed : (m : Meaning) (before after : State) (c : Call) (f : Fault) → Placed m before after c (declined f)
none_placed m before after (enter x n mode) f = tt
none_placed m before after (offer text n) f = tt
none_placed m before after (rename old new mode) f = tt
none_placed m before after (remove x) f = tt

module _ {R F : Type 0} {r : rulebook.Ghosts R} {f : interface.Ghosts F} (mended : List ℕ → List ℕ) (before : Register R F r f) (c : Call) where
  abbrev m : Meaning
  m = meaning_in mended before

  pub refused_made : (fault : faults.Fault) → declined (fault_in fault) ≡ answer (meaning_in mended before) (state_in before) c
      → IsMade mended before before c (Err fault)
  refused_made fault a = record {
    answer = a;
    because = subst (Because m (state_in before) c) (sym a) (because m (state_in before) c);
    state = refused_leaves m (state_in before) c _ a;
    placed = none_placed m (state_in before) (state_in before) c (fault_in fault);
    same_rules = (refl, refl);
    unaltered = refl;
  }

  pub accepted_made : (after : Register R F r f) (p : ℕ) → accepted p ≡ answer (meaning_in mended before) (state_in before) c
      → entries_in after ≡ (changed (meaning_in mended before) (state_in before) c).kept
      → Placed (meaning_in mended before) (state_in before) (state_in after) c (accepted p)
      → SameRules before after → IsMade mended before after c (Ok p)
  accepted_made after p a left placed same = record {
    answer = a;
    because = subst (Because m (state_in before) c) (sym a) (because m (state_in before) c);
    state = ap state_with left ∙ accepted_leaves m (state_in before) c p a;
    placed = placed;
    same_rules = same;
    unaltered = tt;
  }
