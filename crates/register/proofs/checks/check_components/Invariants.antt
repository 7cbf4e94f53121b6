-- The components that are left decide, the first of which has the index that is reached.
use Rattle.std.proofs.Common.{◌≡◌, ◌+◌, length}
use Rattle.std.specs.Iterator.Adapters.{enumerate_count, enumerate_source}
use Rattle.tag.specs.Components.{components}
use Rattle.tag.specs.ComponentsLeft.{components_left}
use Rattle.register_model.specs.Calls.{first_verdict}
use Rattle.register.proofs.checks.check_components.Given as goal

abbrev pub invariant-loop-index : goal.invariant-loop-index
invariant-loop-index g l = record {
  verdict :
      first_verdict (g.F.FileSystem.verdict_of l.files) l.mode (enumerate_count l.index-iterator) (components_left (enumerate_source l.index-iterator))
      ≡ first_verdict (g.F.FileSystem.verdict_of l.files) l.mode 0 (components l.name.items);
  index : enumerate_count l.index-iterator + length (components_left (enumerate_source l.index-iterator)) ≡ length (components l.name.items);
}
