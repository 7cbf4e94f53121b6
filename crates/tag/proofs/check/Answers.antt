-- The first group of rules that refuses decides.
use Rattle.std.proofs.Common.{[]}
use Rattle.std.proofs.lemmas.Result.{err_from_is_err_and}
use Rattle.tag.specs.Names.{opening, reads, tag_name}
use Rattle.tag.proofs.Firsts.{first_refuses, first_passes}
use Rattle.tag.proofs.check.Goals as goal

pub returns-in_err-before_reading : goal.returns-in_err-before_reading
unfolding tag_name
returns-in_err-before_reading c =
    let p = err_from_is_err_and c.from_residual.result c.from_residual.ensures.1 in
    rw (p.1, p.2) (first_refuses (opening c.args.input.now) _ _ c.in_err-before_reading.ensures)

pub returns-in_err-read : goal.returns-in_err-read
unfolding tag_name
returns-in_err-read c =
    let p = err_from_is_err_and c.from_residual-in_err-read.result c.from_residual-in_err-read.ensures.1 in
    rw (p.1, p.2)
    (first_passes (opening c.args.input.now) _ _ c.in_ok-before_reading.ensures
    (first_refuses (reads [] c.args.input.now) _ _ c.in_err-read.ensures))

pub returns : goal.returns
unfolding tag_name
returns c =
    first_passes (opening c.args.input.now) _ _ c.in_ok-before_reading.ensures
    (first_passes (reads [] c.args.input.now) _ _ c.in_ok-read.ensures c.after_reading.ensures)
