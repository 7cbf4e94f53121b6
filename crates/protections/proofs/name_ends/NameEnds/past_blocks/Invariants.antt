-- The loop of `past_blocks`: the bytes passed over are fillers.
use Rattle.std.proofs.Common.{◌≡◌, [], length}
use Rattle.std.specs.Prelude.{bytes_eq}
use Rattle.protections.specs.NameEnds.{ended_key}
use Rattle.protections.proofs.name_ends.NameEnds.past_blocks.Given as goal

abbrev pub invariant-loop-after : goal.invariant-loop-after
invariant-loop-after g l =
    bytes_eq (ended_key g.Self.NameEnds.stops g.Self.NameEnds.fillers l.rest) []
    ≡ bytes_eq (ended_key g.Self.NameEnds.stops g.Self.NameEnds.fillers l.bytes) []

abbrev pub decreases-loop-after : goal.decreases-loop-after
decreases-loop-after g l = length l.rest
