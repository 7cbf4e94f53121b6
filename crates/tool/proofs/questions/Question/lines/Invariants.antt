-- The lines so far with those of the texts that are left are the whole, and so is what passed.
use Rattle.std.proofs.Common.{◌≡◌, ◌++◌, ◌&&◌, map, drop}
use Rattle.std.specs.List.{flat_map, list_all}
use Rattle.tool.specs.Questions.{line_for, passes}
use Rattle.tool.proofs.questions.Question.lines.Given as goal

abbrev pub invariant-loop-text : goal.invariant-loop-text
invariant-loop-text l = record {
  bytes : l.bytes.items ++ flat_map (line_for l.self) (map (λ t. t.now) (drop l.text-index l.texts)) ≡ flat_map (line_for l.self) (map (λ t. t.now) l.texts);
  passed : (l.passed && list_all (passes l.self) (map (λ t. t.now) (drop l.text-index l.texts))) ≡ list_all (passes l.self) (map (λ t. t.now) l.texts);
}
