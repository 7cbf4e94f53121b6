use Rattle.std.proofs.Common.{sym, ap, ◌∙◌, arith}
use Rattle.mending.specs.Steps.{wants_dash}
use Rattle.mending.proofs.Ending.{dash_written}
use Rattle.mending.proofs.text.Text.mend_ends.Goals as goal

pub returns-then-wants_dash-clause-mends : goal.returns-then-wants_dash-clause-mends
returns-then-wants_dash-clause-mends c =
    let t = c.args.self.now in
    dash_written t.buffer.now t.end (omega arith) t.fits (ap wants_dash (sym c.bytes.ensures) ∙ sym c.if-wants_dash.ensures)
