-- The names that a task is asked of.
use Rattle.std.specs.Prelude.{ℕ, List, [], ◌∷◌}
use Rattle.lines.specs.Lines.{lines}

-- those that were given, or where there are none, the lines of the input
abbrev pub names_of : List (List ℕ) → List ℕ → List (List ℕ)
names_of [] input = lines input
names_of (n ∷ ns) input = n ∷ ns
