-- The loop of `all_fillers`: the bytes so far decide.
use Rattle.std.proofs.Common.{◌≡◌, take}
use Rattle.std.specs.List.{list_all}
use Rattle.std.specs.Char.{char_set_contains}
use Rattle.protections.proofs.name_ends.NameEnds.all_fillers.Given as goal

abbrev pub invariant-loop-byte : goal.invariant-loop-byte
invariant-loop-byte g l = l.all ≡ list_all (char_set_contains g.Self.NameEnds.fillers) (take l.byte-index l.bytes)
