-- What follows from the laws.
use Rattle.std.proofs.Common.{◌≡◌, rules}
use Rattle.rulebooks.specs.Refusals.{fault_ruling}
use Rattle.rulebooks.specs.Rulings.{IsValueFor}
use Rattle.rulebooks.proofs.Deciding.{IfErr-from_meaning, OnOk-from_meaning}
use Rattle.rulebooks.proofs.ask.Goals as goal

-- An allowed name has no empty component.
pub returns-clause-no_empty_component : goal.returns-clause-no_empty_component
returns-clause-no_empty_component g c =
    let answer : fault_ruling c.map_err.result ≡ g.R.Rulebook.meaning c.args.name.now = search rules in
    OnOk-from_meaning c.map_err.result _ answer (λ e d. g.met.R.Rulebook.no_empty_component c.args.name.now d e)

-- The value of a refusal fits its number.
pub returns-clause-value_fits : goal.returns-clause-value_fits
returns-clause-value_fits g c =
    let answer : fault_ruling c.map_err.result ≡ g.R.Rulebook.meaning c.args.name.now = search rules in
    IfErr-from_meaning {P = IsValueFor} c.map_err.result _ answer (g.met.R.Rulebook.value_fits c.args.name.now)
