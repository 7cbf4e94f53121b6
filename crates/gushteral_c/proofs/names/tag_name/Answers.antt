-- The error of a tag name becomes that of a reference name.
use Rattle.std.proofs.Common.{◌∙◌}
use Rattle.std.proofs.lemmas.Result.{err_from_is_err_and}
use Rattle.reference.proofs.Deciding.{from_tag_refuses}
use Rattle.gushteral_c.proofs.names.tag_name.Goals as goal

pub returns : goal.returns
returns c = c.in_ok-name.ensures.answer

pub returns-in_err-name : goal.returns-in_err-name
returns-in_err-name c =
    let p = err_from_is_err_and c.from_residual.result c.from_residual.ensures.1 in
    rw (p.1, p.2) (from_tag_refuses _ ∙ c.in_err-name.ensures.answer)
