-- The loop of `has_illegal_byte`: the bytes so far decide.
use Rattle.std.proofs.Common.{◌≡◌, take}
use Rattle.std.specs.List.{list_any}
use Rattle.protections.specs.Rules.{is_illegal_byte}
use Rattle.protections.proofs.windows_devices.has_illegal_byte.Given as goal

abbrev pub invariant-loop-byte : goal.invariant-loop-byte
invariant-loop-byte l = l.found ≡ list_any is_illegal_byte (take l.byte-index l.component)
