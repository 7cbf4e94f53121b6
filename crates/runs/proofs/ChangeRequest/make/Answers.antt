use Rattle.std.proofs.Common.{refl, subst}
use Rattle.register.specs.Meanings.{unmended}
use Rattle.register.specs.Registers.{IsMade}
use Rattle.runs.specs.Listed.{change_of}
use Rattle.runs.proofs.ChangeRequest.make.Goals as goal

pub returns-in-Enter : goal.returns-in-Enter
returns-in-Enter g c =
    rw c.in-Enter.is
    (record {
      made = c.enter.ensures unmended;
      made_alike = c.enter.ensures;
      enter = λ name number mode e.
          subst (λ z. IsMade unmended c.args.register.now c.enter.new.self (change_of z) c.enter.result) e (c.enter.ensures unmended);
      rename = λ old new mode e. cc;
      remove = λ name e. cc;
      call = λ change. refl;
    })

pub returns-in-Rename : goal.returns-in-Rename
returns-in-Rename g c =
    rw c.in-Rename.is
    (record {
      made = c.rename.ensures unmended;
      made_alike = c.rename.ensures;
      enter = λ name number mode e. cc;
      rename = λ old new mode e.
          subst (λ z. IsMade unmended c.args.register.now c.rename.new.self (change_of z) c.rename.result) e (c.rename.ensures unmended);
      remove = λ name e. cc;
      call = λ change. refl;
    })

pub returns-in-Remove : goal.returns-in-Remove
returns-in-Remove g c =
    rw c.in-Remove.is
    (record {
      made = c.remove.ensures unmended;
      made_alike = c.remove.ensures;
      enter = λ name number mode e. cc;
      rename = λ old new mode e. cc;
      remove = λ name e.
          subst (λ z. IsMade unmended c.args.register.now c.remove.new.self (change_of z) c.remove.result) e (c.remove.ensures unmended);
      call = λ change. refl;
    })
