-- The part that is asked for is the second of the list.
use Rattle.std.proofs.Common.{false, eqb, ap, ◌∙◌, rules}
use Rattle.std.specs.Option.{option_map_or}
use Rattle.std.proofs.lemmas.Iterator.Consumers.{YieldsList-from_first, nth_from_yields_List}
use Rattle.characters.specs.ToCome.{parts_to_come}
use Rattle.characters.specs.Standard.{point}
use Rattle.characters.specs.Reader.{parts, code_points}
use Rattle.protections.proofs.Equal.{tested, test_mapped}
use Rattle.protections.proofs.Second.{second_by}
use Rattle.protections.proofs.windows_names.has_prefix.Goals as goal

pub returns : goal.returns
unfolding code_points
returns c =
    let s = c.args.component.now in
    tested (λ p. eqb (point p) 58) false c.nth.result c.is_some_and.result _ c.is_some_and.ensures (λ p h. search rules)
    ∙ test_mapped (λ p. p) (λ p. eqb (point p) 58) c.nth.result false
    ∙ ap (λ o. option_map_or (λ p. eqb (point p) 58) o false)
    (nth_from_yields_List c.nth.result c.nth.new.self 1 c.nth.ensures.ran (YieldsList-from_first (λ p. p) parts_to_come (parts s) c.of.ensures))
    ∙ second_by (parts s)
