-- The lines that an iterator over them has still to give.
use Rattle.std.specs.Prelude.{ℕ, List}
use Rattle.lines.specs.Lines.{lines}
use Rattle.lines.specs.declared.Lines.{Lines}

-- The lines of what is left of the text.
abbrev pub lines_left : Lines → List (List ℕ)
lines_left l = lines l.rest.now
