-- The components that are left decide, and the first of them has the index that is reached.
use Rattle.std.proofs.Common.{◌≡◌}
use Rattle.std.specs.Iterator.Adapters.{enumerate_count, enumerate_source}
use Rattle.tag.specs.Components.{components}
use Rattle.tag.specs.ComponentsLeft.{components_left}
use Rattle.rulebooks.specs.Kinds.{leftmost}
use Rattle.rulebooks.proofs.trees.check_components.Given as goal

abbrev pub invariant-loop-index : goal.invariant-loop-index
invariant-loop-index l =
    leftmost (enumerate_count l.index-iterator) (components_left (enumerate_source l.index-iterator)) ≡ leftmost 0 (components l.path)
