-- The lines of a report, one by one.
use Rattle.std.proofs.Common.{◌≡◌, ℕ, Bool, true, false, List, [], ◌∷◌, ◌++◌, map, Some, None, Option, Result, Iter, refl, sym, ◌∙◌, append_assoc}
use Rattle.std.specs.Option.{option_map}
use Rattle.std.specs.Borrow.{Bor}
use Rattle.std.specs.Slice.Iter.{iter_rest, iter_steps}
use Rattle.std.proofs.lemmas.List.{append-nil, nil_from_length}
use Rattle.register_model.specs.Calls.{Outcome}
use Rattle.register.specs.Faults.{outcome_of}
use Rattle.register.specs.declared.faults.Fault.{Fault}
use Rattle.listing.specs.Parts.{outcome_at}
use Rattle.listing.specs.Report.{answer_lines, line_for}

-- A line that is a call has the next answer, if there is one.
pub call_line : (bs : List Bool) (s t : Iter (Result ℕ Fault)) (o : Option (Bor (Result ℕ Fault))) → iter_steps s o t
    → line_for (option_map outcome_at o) ++ answer_lines bs (map outcome_of (iter_rest t)) ≡ answer_lines (true ∷ bs) (map outcome_of (iter_rest s))
unfolding answer_lines
call_line bs s t None h = let none = nil_from_length (iter_rest s) h.0 in rw (h.1, none)
call_line bs s t (Some a) h = rw h

-- One that is none takes no answer.
pub other_line : (bs : List Bool) (os : List Outcome) → line_for None ++ answer_lines bs os ≡ answer_lines (false ∷ bs) os
unfolding answer_lines
other_line bs os = refl

module _ (v : List ℕ) (before : List Bool) (os : List Outcome) (all : List ℕ) (so_far : v ++ answer_lines before os ≡ all) where
  -- The line of one line more is added.
  pub line_more : (w line : List ℕ) (b : Bool) (bs : List Bool) (rest : List Outcome) → before ≡ b ∷ bs → w ≡ v ++ line
      → line ++ answer_lines bs rest ≡ answer_lines (b ∷ bs) os → w ++ answer_lines bs rest ≡ all
  line_more w line b bs rest e added taken = rw (added, append_assoc, taken) (rw e at so_far)

  -- There is none more.
  pub line_end : before ≡ [] → v ≡ all
  unfolding answer_lines
  line_end e = sym (append-nil v) ∙ (rw e at so_far)
