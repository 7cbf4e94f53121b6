use Rattle.std.proofs.Common.{◌≡◌, refl, subst}
use Rattle.register.specs.Registers.{IsMade}
use Rattle.runs.specs.Listed.{change_of}
use Rattle.runs.proofs.CallRequest.make.Goals as goal

pub returns-in-Change : goal.returns-in-Change
returns-in-Change g c =
    let mended = g.R.MendingRulebook.mended in
    let before = c.args.register.now in
    let made = c.make.ensures.made_alike mended in
    rw c.in-Change.is
    (record {
      made = made;
      change = λ change e.
          let same : c.in-Change.change ≡ change = cc in
          subst (λ z. IsMade mended before c.make.new.register (change_of z) c.make.result) same made;
      offer = λ text number e. cc;
      call = λ a. refl;
      mended = λ s. refl;
      may_offer = refl;
    })
