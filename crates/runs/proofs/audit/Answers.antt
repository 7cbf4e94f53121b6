use Rattle.std.proofs.Common.{refl}
use Rattle.register_model.proofs.Claims.{claim, offers, offers_exact}
use Rattle.register.specs.Registers.{meaning_in}
use Rattle.register.proofs.Lawful.{laws_kept}
use Rattle.runs.proofs.audit.Goals as goal

pub returns-clause-claim : goal.returns-clause-claim
returns-clause-claim g c = λ mended ds ran.
    let files = c.args.register.now.files in
    claim (meaning_in mended c.args.register.now)
    (laws_kept g.R.Rulebook g.F.FileSystem files g.met.R.Rulebook.no_empty_component (g.met.F.FileSystem.symmetric files) (g.met.F.FileSystem.equal_keys_together files) mended)
    _ ds _ ran refl

pub returns-clause-offers : goal.returns-clause-offers
returns-clause-offers g c = λ mended mends ds ran. offers (meaning_in mended c.args.register.now) mends _ ds _ ran

pub returns-clause-offers_exact : goal.returns-clause-offers_exact
returns-clause-offers_exact g c = λ mended mends ds ran.
    let files = c.args.register.now.files in
    offers_exact (meaning_in mended c.args.register.now)
    (laws_kept g.R.Rulebook g.F.FileSystem files g.met.R.Rulebook.no_empty_component (g.met.F.FileSystem.symmetric files) (g.met.F.FileSystem.equal_keys_together files) mended)
    mends _ ds _ ran refl
