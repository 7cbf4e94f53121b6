use Rattle.std.proofs.Common.{None, ap, ◌∙◌}
use Rattle.register_model.specs.Calls.{answer, state_after}
use Rattle.register_model.specs.Calls.Call.{enter}
use Rattle.register.specs.Registers.{state_in}
use Rattle.gushteral_c.specs.Batch.{byte_of}
use Rattle.runs.specs.Campus.{campus}
use Rattle.gushteral_c.proofs.batch.enter_name.Goals as goal

pub returns : goal.returns
returns c =
    let made = c.enter.ensures campus.mended in
    record {
      answer =
          c.answer_byte.ensures
          ∙ (ap byte_of made.answer
          ∙ ap (λ n. byte_of (answer campus (state_in c.args.register.now) (enter c.args.name.now n None))) c.name_number.ensures);
      state =
          made.state
          ∙ ap (λ n. state_after campus (state_in c.args.register.now) (enter c.args.name.now n None)) c.name_number.ensures;
    }
