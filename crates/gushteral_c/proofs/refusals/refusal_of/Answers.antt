use Rattle.std.proofs.Common.{rules, ap, ◌∙◌, ◌≡◌}
use Rattle.explanations.specs.Numbers.{known}
use Rattle.gushteral_c.proofs.refusals.refusal_of.Goals as goal

pub returns : goal.returns
returns c =
    let same : c.in_ok-ok.field-0 ≡ c.args.number = search rules in
    c.of.ensures.one ∙ ap known same
