-- The text so far, with the components that are left, is the whole; and there is room for what is left.
use Rattle.std.proofs.Common.{◌≡◌, ◌+◌, ◌≤◌, [], length}
use Rattle.tag.specs.Components.{components}
use Rattle.mending.specs.Steps.{add_all, gap}
use Rattle.mending.specs.Texts.{text_of, SameBuffer}
use Rattle.mending.proofs.text.Text.push_components.Given as goal

abbrev pub invariant-loop-rest : goal.invariant-loop-rest
invariant-loop-rest l =
    (add_all (text_of l.self) (components l.rest) ≡ add_all [] (components l.input))
    × (gap l.self.end + length l.rest ≤ length l.self.buffer.now)
    × SameBuffer l.initial.self l.self

abbrev pub decreases-loop-rest : goal.decreases-loop-rest
decreases-loop-rest l = length l.rest
