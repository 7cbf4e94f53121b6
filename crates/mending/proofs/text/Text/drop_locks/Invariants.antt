-- What stands before the start stays, and what is left behind it is the same without .lock at its end.
use Rattle.std.proofs.Common.{◌≡◌, ◌≤◌, drop, take}
use Rattle.mending.specs.Mender.{without_lock}
use Rattle.mending.specs.Texts.{text_of, SameBuffer}
use Rattle.mending.proofs.text.Text.drop_locks.Given as goal

abbrev pub invariant-loop-self : goal.invariant-loop-self
invariant-loop-self l =
    (l.start ≤ l.self.end)
    × (l.self.end ≤ l.initial.self.end)
    × SameBuffer l.initial.self l.self
    × (take l.start (text_of l.self) ≡ take l.start (text_of l.initial.self))
    × (without_lock (drop l.start (text_of l.self)) ≡ without_lock (drop l.start (text_of l.initial.self)))

abbrev pub decreases-loop-self : goal.decreases-loop-self
decreases-loop-self l = l.self.end
