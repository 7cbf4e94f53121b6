-- The next number of the key is the next character that is not passed over.
use Rattle.std.proofs.Common.{◌∙◌}
use Rattle.protections.proofs.FirstDot.{hidden, shown, none_left}
use Rattle.protections.proofs.hfs_names.HfsKeyed.advance.Goals as goal

pub returns-then-not-passes_over : goal.returns-then-not-passes_over
returns-then-not-passes_over c =
    c.loop-part.invariant
    ∙ shown _ _ _ _ c.in-Some.ensures.parts c.code_point-number.ensures _ c.small.ensures c.if-not-passes_over.ensures

pub loop-part-preserved : goal.loop-part-preserved
loop-part-preserved c =
    c.loop-part.invariant ∙ hidden _ _ _ _ c.in-Some.ensures.parts c.code_point-number.ensures c.if-not-passes_over.ensures

pub returns : goal.returns
returns c =
    let t = c.in_default.ensures.taken in (c.loop-part.invariant ∙ none_left _ t.0, none_left _ t.1)
