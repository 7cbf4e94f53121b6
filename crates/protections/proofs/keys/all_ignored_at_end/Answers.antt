-- The number in front, and then what the cursor has left.
use Rattle.std.proofs.Common.{ℕ, Bool, true, ◌&&◌, refl, sym, ap, ◌∙◌, rules}
use Rattle.std.proofs.lemmas.Iterator.Consumers.{YieldsList-from_first}
use Rattle.std.proofs.lemmas.Iterator.Search.{all_from_yields_List}
use Rattle.std.specs.List.{list_all}
use borrow.Author.Tests.{tests}
use Rattle.std.specs.Char.{char_set_contains}
use Rattle.protections.proofs.Equal.{tested}
use Rattle.protections.proofs.Trimmed.{all_with_first}
use Rattle.protections.proofs.keys.all_ignored_at_end.Goals as goal

pub returns-then-is_none_or : goal.returns-then-is_none_or
returns-then-is_none_or g c =
    let test : ℕ → Bool = char_set_contains (g.P.Keyed.ignored_at_end c.args.protection.now) in
    let first = tested test true c.args.number c.is_none_or.result _ c.is_none_or.ensures (λ n h. search rules) in
    let others = all_from_yields_List test _ _ c.all.result c.all.ensures.ran (YieldsList-from_first (λ n. n) _ _ refl) (λ x b q k. search (rules, tests)) in
    others ∙ sym (all_with_first test c.args.number _ ∙ ap (λ b. b && list_all test c.args.rest) (sym first ∙ c.if-is_none_or.true))
