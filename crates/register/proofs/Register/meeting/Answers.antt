use Rattle.std.proofs.Common.{None, sym, subst}
use Rattle.register_model.specs.Reasons.{IsFirstMeeting}
use Rattle.register_model.proofs.Firsts.{first_found}
use Rattle.register.specs.Registers.{entries_in}
use Rattle.register.proofs.Register.meeting.Goals as goal

pub returns-clause-words : goal.returns-clause-words
returns-clause-words g c =
    let t = g.F.FileSystem.together c.args.self.now.files in
    let es = entries_in c.args.self.now in
    subst (IsFirstMeeting t None c.args.name.now es) (sym c.first_meeting.ensures) (first_found t None c.args.name.now es)
