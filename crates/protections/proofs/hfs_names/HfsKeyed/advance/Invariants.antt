-- The loop of `advance`: what is passed over adds nothing to the key.
use Rattle.std.proofs.Common.{◌≡◌, length}
use Rattle.characters.specs.Reader.{parts}
use Rattle.protections.specs.Keys.{hfs_key}
use Rattle.protections.proofs.hfs_names.HfsKeyed.advance.Given as goal

abbrev pub invariant-loop-part : goal.invariant-loop-part
invariant-loop-part l = hfs_key l.initial.rest.now ≡ hfs_key l.rest.now

abbrev pub decreases-loop-part : goal.decreases-loop-part
decreases-loop-part l = length (parts l.rest.now)
