-- The answer decides the rules of the manual page.
use Rattle.std.proofs.Common.{◌≡◌, Ok, refl, sym, ◌∙◌, subst}
use Rattle.std.proofs.lemmas.Result.{err_from_is_err_and}
use Rattle.tag.specs.Answers.{IsFirst}
use Rattle.tag.specs.Errors.{answer_of}
use Rattle.tag.specs.Names.{tag_name}
use Rattle.tag.specs.Refusals.{Applies}
use Rattle.tag.proofs.Parts.{are_components}
use Rattle.tag.proofs.Rules.{decides_rules}
use Rattle.tag.proofs.TagRefusals.{tag_first}
use Rattle.tag.proofs.name.Goals as goal

pub returns-in_err-check : goal.returns-in_err-check
returns-in_err-check c =
    let p = err_from_is_err_and c.from_residual.result c.from_residual.ensures.1 in
    let a : answer_of c.from_residual.result ≡ tag_name c.args.input.now =
    rw (p.1, p.2) c.in_err-check.ensures in
    record {
      answer = a;
      first = subst (IsFirst (Applies c.args.input.now)) (sym a) (tag_first c.args.input.now).0;
      no_other = λ x h. (tag_first c.args.input.now).1 x h ∙ sym a;
      view = rw p.1 tt;
      components = are_components c.args.input.now;
      manual = decides_rules c.from_residual.result c.args.input.now a;
    }

pub returns : goal.returns
returns c =
    let a = c.in_ok-check.ensures in
    record {
      answer = a;
      first = subst (IsFirst (Applies c.args.input.now)) (sym a) (tag_first c.args.input.now).0;
      no_other = λ x h. (tag_first c.args.input.now).1 x h ∙ sym a;
      view = refl;
      components = are_components c.args.input.now;
      manual = decides_rules (Ok c.args.input) c.args.input.now a;
    }
