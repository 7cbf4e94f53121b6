-- What an iterator over parts has still to give.
use Rattle.std.specs.Prelude.{List}
use Rattle.characters.specs.declared.Part.{Part}
use Rattle.characters.specs.Reader.{parts}
use Rattle.characters.specs.declared.sequence.Characters.{Characters}

-- The parts of what is left of the byte string.
abbrev pub parts_to_come : Characters → List Part
parts_to_come c = parts c.rest.now
