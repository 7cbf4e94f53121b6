-- The first check that refuses decides, and the answer decides the manual's rules.
use Rattle.std.proofs.Common.{◌≡◌, sym, refl}
use Rattle.std.proofs.lemmas.Result.{err_from_is_err_and}
use Rattle.std.proofs.lemmas.Bool.{cond-true, cond-false}
use Rattle.tag.specs.Answers.Answer.{allowed}
use Rattle.tag.proofs.Firsts.{first_passes}
use Rattle.reference.specs.Errors.{refusal}
use Rattle.reference.specs.Names.{complete_name, partial_name}
use Rattle.reference.specs.declared.Error.TheVariants.{SomeLowercase}
use Rattle.reference.proofs.ReferenceRefusals.{complete_first}
use Rattle.tag.proofs.FirstRules.{is_first, is_only}
use Rattle.reference.proofs.Deciding.{first_refuses}
use Rattle.reference.proofs.Manual.{decides_err, decides_ok, complete_allows}
use Rattle.reference.proofs.name.Goals as goal

pub returns-in_err-name_partial : goal.returns-in_err-name_partial
unfolding complete_name
returns-in_err-name_partial c =
    let p = err_from_is_err_and c.from_residual.result c.from_residual.ensures.1 in
    let a : refusal c.in_err-name_partial.field-0.0 ≡ complete_name c.args.input.now =
    first_refuses (partial_name c.args.input.now) _ _ c.in_err-name_partial.ensures.answer in
    rw (p.1, p.2)
    (record { answer = a; first = is_first a (complete_first c.args.input.now); no_other = is_only a (complete_first c.args.input.now); view = c.in_err-name_partial.ensures.view; manual = decides_err c.in_err-name_partial.field-0.0 _ a (complete_allows c.args.input.now) })

pub returns-then-not-complete : goal.returns-then-not-complete
unfolding complete_name
returns-then-not-complete c =
    let a : refusal SomeLowercase ≡ complete_name c.args.input.now =
    first_passes (partial_name c.args.input.now) _ _ c.in_ok-name_partial.ensures.answer
    (sym (cond-false _ _ _ (sym c.if-not-complete.ensures))) in
    record { answer = a; first = is_first a (complete_first c.args.input.now); no_other = is_only a (complete_first c.args.input.now); view = tt; manual = decides_err SomeLowercase _ a (complete_allows c.args.input.now) }

pub returns : goal.returns
unfolding complete_name
returns c =
    let a : allowed ≡ complete_name c.args.input.now =
    first_passes (partial_name c.args.input.now) _ _ c.in_ok-name_partial.ensures.answer
    (sym (cond-true _ _ _ (sym c.if-not-complete.ensures))) in
    record { answer = a; first = is_first a (complete_first c.args.input.now); no_other = is_only a (complete_first c.args.input.now); view = refl; manual = decides_ok _ a (complete_allows c.args.input.now) }
