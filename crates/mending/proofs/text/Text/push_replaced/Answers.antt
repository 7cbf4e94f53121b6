use Rattle.std.proofs.Common.{◌≤◌, length, arith}
use Rattle.mending.proofs.Adding.{written}
use Rattle.mending.proofs.text.Text.push_replaced.Goals as goal

pub returns-clause-adds : goal.returns-clause-adds
returns-clause-adds c =
    let t = c.args.self.now in
    let w = c.write_replaced-progress.ensures in
    let fits : c.write_replaced-progress.result.written ≤ length c.write_replaced-progress.new.out = omega arith in
    written t.buffer.now c.write_replaced-progress.new.out _ t.end c.write_replaced-progress.result.written t.fits fits w.writes
