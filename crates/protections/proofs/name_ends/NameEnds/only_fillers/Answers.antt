-- The first byte that is no filler decides.
use Rattle.std.proofs.Common.{ℕ, Bool, not, true, ap, ◌∙◌, rules}
use Rattle.std.proofs.lemmas.Iterator.{YieldsList-from_slice}
use Rattle.std.proofs.lemmas.Iterator.Search.{find_from_yields_List}
use borrow.Author.Tests.{tests}
use Rattle.std.specs.Char.{char_set_contains}
use Rattle.protections.proofs.EndedKey.{only_fillers_by, rest_first}
use Rattle.protections.proofs.Equal.{tested, test_mapped}
use Rattle.protections.proofs.name_ends.NameEnds.only_fillers.Goals as goal

pub returns : goal.returns
returns g c =
    let other : ℕ → Bool = λ b. not (char_set_contains g.Self.NameEnds.fillers b) in
    tested (λ x. char_set_contains g.Self.NameEnds.stops x.now) true c.find.result c.is_none_or.result _ c.is_none_or.ensures (λ x p. search rules)
    ∙ test_mapped (λ x. x.now) (char_set_contains g.Self.NameEnds.stops) c.find.result true
    ∙ ap (only_fillers_by g.Self.NameEnds.stops g.Self.NameEnds.fillers)
    (find_from_yields_List other _ _ c.find.result c.find.ensures.ran (YieldsList-from_slice c.past_blocks.result.now (cc)) (λ x b q k. search (rules, tests)))
    ∙ rest_first g.Self.NameEnds.stops g.Self.NameEnds.fillers g.met.Self.NameEnds.apart c.past_blocks.result.now
    ∙ c.past_blocks.ensures
