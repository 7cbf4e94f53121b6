-- What a rulebook and a file system mean, from what their types state, and the state of a register that keeps these entries.
use Rattle.std.specs.Prelude.{ℕ, List}
use Rattle.rulebooks.specs.declared.Rulebook as rulebook
use Rattle.filesystems.specs.declared.interface.FileSystem as interface
use Rattle.register_model.specs.Calls.{Kept, Meaning, State}

-- With what a text is mended to.
abbrev pub meaning_of :
    {R F : Type 0} → rulebook.Ghosts R → (List ℕ → List ℕ) → interface.Ghosts F → F → Meaning
meaning_of r mended f files = record {
  kind = r.KIND;
  ruling = r.meaning;
  mended = mended;
  verdict = f.verdict_of files;
  together = f.together files;
  keys = f.keys files;
}

-- A text as it is. It stands for the mended text where no call is an offer, since nothing depends on it there.
abbrev pub unmended : List ℕ → List ℕ
unmended s = s

abbrev pub state_with : Kept → State
state_with es = record { kept = es }
