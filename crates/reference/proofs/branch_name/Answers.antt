-- The first check that refuses decides, and the answer decides the manual's rules.
use Rattle.std.proofs.Common.{◌≡◌, sym, refl}
use Rattle.std.proofs.lemmas.Result.{err_from_is_err_and}
use Rattle.std.proofs.lemmas.Bool.{cond-true, cond-false}
use Rattle.tag.specs.Answers.Answer.{allowed}
use Rattle.tag.proofs.Firsts.{first_passes}
use Rattle.reference.specs.Errors.{refusal}
use Rattle.reference.specs.Names.{branch_name, complete_name}
use Rattle.reference.specs.declared.Error.TheVariants.{Reserved}
use Rattle.reference.proofs.ReferenceRefusals.{branch_first}
use Rattle.tag.proofs.FirstRules.{is_first, is_only}
use Rattle.reference.proofs.Deciding.{first_refuses}
use Rattle.reference.proofs.Manual.{decides_err, decides_ok, branch_allows}
use Rattle.reference.proofs.branch_name.Goals as goal

pub returns-in_err-name : goal.returns-in_err-name
unfolding branch_name
returns-in_err-name c =
    let p = err_from_is_err_and c.from_residual.result c.from_residual.ensures.1 in
    let a : refusal c.in_err-name.field-0.0 ≡ branch_name c.args.input.now =
    first_refuses (complete_name c.args.input.now) _ _ c.in_err-name.ensures.answer in
    rw (p.1, p.2)
    (record { answer = a; first = is_first a (branch_first c.args.input.now); no_other = is_only a (branch_first c.args.input.now); view = c.in_err-name.ensures.view; manual = decides_err c.in_err-name.field-0.0 _ a (branch_allows c.args.input.now) })

pub returns-then-kept_from_branches : goal.returns-then-kept_from_branches
unfolding branch_name
returns-then-kept_from_branches c =
    let a : refusal (Reserved c.args.input) ≡ branch_name c.args.input.now =
    first_passes (complete_name c.args.input.now) _ _ c.in_ok-name.ensures.answer
    (sym (cond-true _ _ _ (sym c.if-kept_from_branches.ensures))) in
    record { answer = a; first = is_first a (branch_first c.args.input.now); no_other = is_only a (branch_first c.args.input.now); view = refl; manual = decides_err (Reserved c.args.input) _ a (branch_allows c.args.input.now) }

pub returns : goal.returns
unfolding branch_name
returns c =
    let a : allowed ≡ branch_name c.args.input.now =
    first_passes (complete_name c.args.input.now) _ _ c.in_ok-name.ensures.answer
    (sym (cond-false _ _ _ (sym c.if-kept_from_branches.ensures))) in
    record { answer = a; first = is_first a (branch_first c.args.input.now); no_other = is_only a (branch_first c.args.input.now); view = refl; manual = decides_ok _ a (branch_allows c.args.input.now) }
