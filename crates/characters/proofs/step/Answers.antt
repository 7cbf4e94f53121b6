-- What `step` answers is the part that the definition has, which is the Standard's.
use Rattle.std.proofs.Common.{◌≡◌, None, sym, ap, ◌∙◌}
use Rattle.std.proofs.lemmas.List.{nil_from_length}
use Rattle.characters.specs.Reader.{first_part}
use Rattle.characters.proofs.Only.{standard_and_only}
use Rattle.characters.proofs.Steps.{at_none, at_some, at_part}
use Rattle.characters.proofs.step.Goals as goal

pub returns-in_err-first : goal.returns-in_err-first
returns-in_err-first c =
    let e = nil_from_length c.args.bytes.now c.in_err-first.ensures.cases in
    let v : None ≡ first_part c.args.bytes.now = rw e in
    let l = standard_and_only c.args.bytes.now None v in
    rw c.from_residual.ensures (record { value = v; standard = l.0; only = l.1 })

pub returns-in_default : goal.returns-in_default
returns-in_default c =
    let s = c.args.bytes.now in
    let v = at_none c.in_ok-first.first.now c.in_ok-first.rest.now c.in_default.ensures ∙ sym (ap first_part c.in_ok-first.ensures.cases.0) in
    let l = standard_and_only s _ v in record { value = v; standard = l.0; only = l.1 }

pub returns-then-length-ranges : goal.returns-then-length-ranges
returns-then-length-ranges c =
    let s = c.args.bytes.now in
    let e = c.in_ok-first.ensures.cases.0 in
    let v =
    at_some c.in-Some.ranges.now c.matching-length.result c.in_ok-first.first.now c.in_ok-first.rest.now c.in-Some.ensures
    c.matching-length.ensures.value
    c.if-length-ranges.true
    c.joined.result
    (rw e at c.joined.ensures)
    ∙ sym (ap first_part e)
    in
    let l = standard_and_only s _ v in record { value = v; standard = l.0; only = l.1 }

pub returns-else-length-ranges : goal.returns-else-length-ranges
returns-else-length-ranges c =
    let s = c.args.bytes.now in
    let v =
    at_part c.in-Some.ranges.now c.matching-length.result c.in_ok-first.first.now c.in_ok-first.rest.now c.in-Some.ensures
    c.matching-length.ensures.value
    c.if-length-ranges.false
    ∙ sym (ap first_part c.in_ok-first.ensures.cases.0)
    in
    let l = standard_and_only s _ v in record { value = v; standard = l.0; only = l.1 }
