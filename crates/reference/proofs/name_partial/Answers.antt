-- The first check that refuses decides, and the answer decides the manual's rules.
use Rattle.std.proofs.Common.{◌≡◌, codes, sym, refl, ◌∙◌}
use Rattle.std.proofs.lemmas.Result.{err_from_is_err_and}
use Rattle.std.proofs.lemmas.Bool.{cond-true, cond-false}
use Rattle.tag.specs.Names.{tag_name}
use Rattle.tag.specs.Answers.Answer.{allowed}
use Rattle.tag.proofs.Firsts.{first_passes}
use Rattle.reference.specs.Errors.{from_tag, refusal}
use Rattle.reference.specs.Names.{partial_name}
use Rattle.reference.specs.declared.Error.TheVariants.{Reserved}
use Rattle.reference.proofs.ReferenceRefusals.{partial_first}
use Rattle.tag.proofs.FirstRules.{is_first, is_only}
use Rattle.reference.proofs.Deciding.{equals, first_refuses, from_tag_refuses, from_tag_lends}
use Rattle.reference.proofs.Manual.{decides_err, decides_ok, partial_allows}
use Rattle.reference.proofs.name_partial.Goals as goal

pub returns-in_err-name : goal.returns-in_err-name
unfolding partial_name
returns-in_err-name c =
    let p = err_from_is_err_and c.from_residual.result c.from_residual.ensures.1 in
    let a : refusal (from_tag c.in_err-name.field-0.0) ≡ partial_name c.args.input.now =
    first_refuses (tag_name c.args.input.now) _ _ (from_tag_refuses _ ∙ c.in_err-name.ensures.answer) in
    rw (p.1, p.2)
    (record { answer = a; first = is_first a (partial_first c.args.input.now); no_other = is_only a (partial_first c.args.input.now); view = from_tag_lends c.args.input _; manual = decides_err (from_tag c.in_err-name.field-0.0) _ a (partial_allows c.args.input.now) })

pub returns-then-eq : goal.returns-then-eq
unfolding partial_name
returns-then-eq c =
    let at = equals c.args.input.now c.as_slice.result.now (codes "@") c.eq.result c.eq.ensures c.as_slice.ensures in
    let a : refusal (Reserved c.args.input) ≡ partial_name c.args.input.now =
    first_passes (tag_name c.args.input.now) _ _ c.in_ok-name.ensures.answer
    (sym (cond-true _ _ _ (sym at ∙ c.if-eq.true))) in
    record { answer = a; first = is_first a (partial_first c.args.input.now); no_other = is_only a (partial_first c.args.input.now); view = refl; manual = decides_err (Reserved c.args.input) _ a (partial_allows c.args.input.now) }

pub returns : goal.returns
unfolding partial_name
returns c =
    let at = equals c.args.input.now c.as_slice.result.now (codes "@") c.eq.result c.eq.ensures c.as_slice.ensures in
    let a : allowed ≡ partial_name c.args.input.now =
    first_passes (tag_name c.args.input.now) _ _ c.in_ok-name.ensures.answer
    (sym (cond-false _ _ _ (sym at ∙ c.if-eq.false))) in
    record { answer = a; first = is_first a (partial_first c.args.input.now); no_other = is_only a (partial_first c.args.input.now); view = refl; manual = decides_ok _ a (partial_allows c.args.input.now) }
