-- The state is what the byte before says, and what is left decides.
use Rattle.std.proofs.Common.{◌≡◌, [], take, drop}
use Rattle.tag.specs.Bytes.{last_byte}
use Rattle.tag.specs.Names.{reads}
use Rattle.tag.specs.Scanning.{after}
use Rattle.tag.proofs.read.Given as goal

abbrev pub invariant-loop-i : goal.invariant-loop-i
invariant-loop-i l =
    (l.scanner ≡ after (last_byte (take l.i l.input)))
    × (reads (take l.i l.input) (drop l.i l.input) ≡ reads [] l.input)
