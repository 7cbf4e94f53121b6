use Rattle.std.proofs.Common.{Some, ap, ◌∙◌}
use Rattle.std.proofs.lemmas.Result.{err_from_is_err_and}
use Rattle.tag.specs.Components.{components}
use Rattle.register_model.specs.Calls.{first_verdict}
use Rattle.register.specs.Faults.{own_fault}
use Rattle.register.specs.Meanings.{meaning_of}
use Rattle.register.proofs.Naming.{rules_refuse, too_long, verdicts_decide}
use Rattle.register.proofs.Register.checked.Goals as goal

pub returns-in_err-check_length-clause-fault : goal.returns-in_err-check_length-clause-fault
returns-in_err-check_length-clause-fault g c =
    let p = err_from_is_err_and c.from_residual.result c.from_residual.ensures.1 in
    let k = c.in_err-check_length.ensures in
    rw (p.1, p.2) (λ mended. ap (λ f. Some (own_fault f)) k.1 ∙ too_long (meaning_of g.R.Rulebook mended g.F.FileSystem c.args.self.now.files) c.args.name.now c.args.mode k.0)

pub returns-in_err-ask-clause-fault : goal.returns-in_err-ask-clause-fault
returns-in_err-ask-clause-fault g c =
    let p = err_from_is_err_and c.from_residual-in_err-ask.result c.from_residual-in_err-ask.ensures.1 in
    rw (p.1, p.2)
    (λ mended. rules_refuse (meaning_of g.R.Rulebook mended g.F.FileSystem c.args.self.now.files) c.args.name.now c.args.mode c.in_ok-check_length.ensures _ _ _
    c.in_err-ask.ensures.kind c.in_err-ask.ensures.answer)

pub returns-in_err-kept-clause-fault : goal.returns-in_err-kept-clause-fault
returns-in_err-kept-clause-fault g c =
    let p = err_from_is_err_and c.from_residual-in_err-kept.result c.from_residual-in_err-kept.ensures.1 in
    let k = c.in_err-kept.ensures in
    rw (p.1, p.2) (λ mended. ap (λ f. Some (own_fault f)) k.1 ∙ too_long (meaning_of g.R.Rulebook mended g.F.FileSystem c.args.self.now.files) c.args.name.now c.args.mode k.0)

pub returns-in_err-check_components-clause-fault : goal.returns-in_err-check_components-clause-fault
returns-in_err-check_components-clause-fault g c =
    let p = err_from_is_err_and c.from_residual-in_err-check_components.result c.from_residual-in_err-check_components.ensures.1 in
    rw (p.1, p.2)
    (λ mended. c.in_err-check_components.ensures
    ∙ (ap (λ x. first_verdict (g.F.FileSystem.verdict_of c.args.self.now.files) c.args.mode 0 (components x)) c.in_ok-kept.ensures.0
    ∙ verdicts_decide (meaning_of g.R.Rulebook mended g.F.FileSystem c.args.self.now.files) c.args.name.now c.args.mode c.in_ok-kept.ensures.1 c.in_ok-ask.ensures.answer))

pub returns-clause-fault : goal.returns-clause-fault
returns-clause-fault g c = λ mended.
    c.in_ok-check_components.ensures
    ∙ (ap (λ x. first_verdict (g.F.FileSystem.verdict_of c.args.self.now.files) c.args.mode 0 (components x)) c.in_ok-kept.ensures.0
    ∙ verdicts_decide (meaning_of g.R.Rulebook mended g.F.FileSystem c.args.self.now.files) c.args.name.now c.args.mode c.in_ok-kept.ensures.1 c.in_ok-ask.ensures.answer)
