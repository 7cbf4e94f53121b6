use Rattle.std.proofs.Common.{sym, subst}
use Rattle.register_model.specs.Reasons.{StandsAt}
use Rattle.register_model.proofs.Places.{stands_at}
use Rattle.register.specs.Registers.{entries_in}
use Rattle.register.proofs.Register.find.Goals as goal

pub returns-clause-words : goal.returns-clause-words
returns-clause-words g c =
    let es = entries_in c.args.self.now in
    subst (StandsAt c.args.name.now es) (sym c.place_of.ensures) (stands_at c.args.name.now es)
