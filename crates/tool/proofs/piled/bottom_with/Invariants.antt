use Rattle.std.proofs.Common.{◌≡◌, map, take}
use Rattle.filesystems.specs.Pairs.{WithinLimits}
use Rattle.tool.specs.Setups.{pair_of}
use Rattle.tool.proofs.piled.bottom_with.Given as goal

-- the pairs so far are declared
abbrev pub invariant-loop-left : goal.invariant-loop-left
invariant-loop-left l = (l.bottom ≡ map pair_of (take l.left-index l.pairs)) × WithinLimits l.bottom
