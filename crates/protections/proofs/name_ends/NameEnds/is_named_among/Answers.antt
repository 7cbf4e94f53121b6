-- The names are asked one after the other.
use Rattle.std.proofs.Common.{◌≡◌, ℕ, Bool, true, Bor, List, sym, ◌∙◌, subst, rules}
use Rattle.std.proofs.lemmas.Iterator.{YieldsList-from_slice}
use Rattle.std.proofs.lemmas.Iterator.Adapters.{serves_from_places}
use Rattle.std.proofs.lemmas.Iterator.Search.{any_from_yields_List}
use borrow.Author.Tests.{tests}
use Rattle.std.specs.Prelude.{bytes_eq}
use Rattle.protections.specs.NameEnds.{ended_key, is_ended_key}
use Rattle.protections.proofs.Lent.{names_all, names_is_listed}
use Rattle.protections.proofs.name_ends.NameEnds.is_named_among.Goals as goal

pub any-requires-clause-callable : goal.any-requires-clause-callable
any-requires-clause-callable g c =
    let names = c.args.names.now in
    serves_from_places (YieldsList-from_slice names (cc)) (λ x q k. search rules)
    (λ x k l e.
    let n : is_ended_key g.Self.NameEnds.stops g.Self.NameEnds.fillers x.now.now ≡ true = subst (λ m. is_ended_key g.Self.NameEnds.stops g.Self.NameEnds.fillers m.now ≡ true) (sym e) (names_all _ names k x.now l c.requires) in
    search rules)

pub returns : goal.returns
returns g c =
    let key = ended_key g.Self.NameEnds.stops g.Self.NameEnds.fillers c.args.component.now in
    let is_key : Bor (List ℕ) → Bool = λ n. bytes_eq key n.now in
    any_from_yields_List is_key _ _ c.any.result c.any.ensures.ran (YieldsList-from_slice c.args.names.now (cc)) (λ x b q k. search (rules, tests))
    ∙ names_is_listed key c.args.names.now
