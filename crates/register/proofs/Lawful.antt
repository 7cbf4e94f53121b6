-- The laws of a register's rulebook and file system together, from those that each keeps, and its invariant after a call.
use Rattle.std.proofs.Common.{◌≡◌, ℕ, true, List, [], ◌≢◌, ap, sym, ◌∙◌, subst}
use Rattle.std.specs.List.{Contains}
use Rattle.tag.specs.Components.{components}
use Rattle.tag.specs.Answers.Answer.{allowed}
use Rattle.rulebooks.specs.declared.Rulebook as rulebook
use Rattle.filesystems.specs.Keys.{Key}
use Rattle.filesystems.specs.declared.interface.FileSystem as interface
use Rattle.register_model.specs.Calls.{Call, Kept, answer, changed}
use Rattle.register_model.specs.Calls.Outcome.{accepted}
use Rattle.register_model.specs.Claim.{Holds}
use Rattle.register_model.proofs.Laws.{Lawful}
use Rattle.register_model.proofs.Claims.{holds_after}
use Rattle.register.specs.Meanings.{meaning_of, state_with, unmended}
use Rattle.register.proofs.Answering.{accepted_leaves}

module _ {R F : Type 0} (r : rulebook.Ghosts R) (f : interface.Ghosts F) (files : F)
    (no_empty : (s c : List ℕ) → r.meaning s ≡ allowed → Contains (components s) c → c ≢ [])
    (symmetric : (a b : List ℕ) → f.together files a b ≡ true → f.together files b a ≡ true)
    (keys_law : (f.keys files ≢ []) × ((key : Key) (a b : List ℕ) → Contains (f.keys files) key → key a ≡ key b → f.together files a b ≡ true)) where
  pub laws_kept : (mended : List ℕ → List ℕ) → Lawful (meaning_of r mended f files)
  laws_kept mended = record {
    no_empty_component = no_empty;
    symmetric = symmetric;
    some_key = keys_law.0;
    equal_keys_together = keys_law.1;
  }

  -- An accepted call leaves what holds of every register.
  pub accepted_holds : (es after : Kept) → Holds (meaning_of r unmended f files) (state_with es) → (c : Call) (p : ℕ)
      → accepted p ≡ answer (meaning_of r unmended f files) (state_with es) c → after ≡ (changed (meaning_of r unmended f files) (state_with es) c).kept
      → Holds (meaning_of r unmended f files) (state_with after)
  accepted_holds es after held c p a left =
      let m = meaning_of r unmended f files in
      subst (Holds m) (sym (ap state_with left ∙ accepted_leaves m (state_with es) c p a))
      (holds_after m (laws_kept unmended) (state_with es) held c)
