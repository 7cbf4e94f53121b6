-- The names are those that were given, or the lines of the input.
use Rattle.std.proofs.Common.{◌≡◌, ◌<◌, length, rules, sym}
use Rattle.std.proofs.lemmas.Iterator.{YieldsList-from_slice, YieldsList-from_map_by}
use Rattle.std.proofs.lemmas.Iterator.Consumers.{map_from_collect, YieldsList-from_first}
use Rattle.lines.specs.Left.{lines_left}
use Rattle.lines.specs.Lines.{lines}
use Rattle.tool_io.proofs.Given.{names_of-none, names_of-some}
use Rattle.tool_io.proofs.names.named.Goals as goal

pub returns-then-is_empty : goal.returns-then-is_empty
returns-then-is_empty c =
    let none : length c.args.given.now ≡ 0 = search rules in
    rw (sym (names_of-none _ c.args.input.now none))
    (map_from_collect _ c.collect.ensures.ran (YieldsList-from_first (λ x. x.now) lines_left (lines c.args.input.now) (search rules)))

pub returns : goal.returns
returns c =
    let some : 0 < length c.args.given.now = search rules in
    rw (sym (names_of-some _ c.args.input.now some))
    (map_from_collect _ c.collect-2.ensures.ran
    (YieldsList-from_map_by _ (λ r. r.now) (λ x. x.now) (YieldsList-from_slice c.args.given.now (search rules)) (search rules) (λ x r q k. search rules)))
