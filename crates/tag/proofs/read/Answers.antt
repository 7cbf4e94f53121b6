-- Each turn reads one byte on.
use Rattle.std.proofs.Common.{◌≡◌, ◌<◌, false, length, get_or, take, sym, ap, ◌∙◌, arith}
use Rattle.std.proofs.lemmas.List.{at_drop_all}
use Rattle.std.proofs.lemmas.Result.{err_from_is_err_and}
use Rattle.tag.specs.Answers.Answer.{allowed}
use Rattle.tag.specs.Bytes.{last_byte, ends_in_lock}
use Rattle.tag.specs.Names.{fault_after, reads}
use Rattle.tag.specs.Scanning.{after}
use Rattle.tag.proofs.Reading.{after_slash, slash_after, reads_fault, reads_on, reads_lock, last_byte_more}
use Rattle.tag.proofs.read.Goals as goal
use Rattle.tag.proofs.read.Goals.{in-AfterSlash, in_default, else-matches-via-then-matches+else-ends_in_lock, else-matches-via-else-matches}

pub returns-in_err-step : goal.returns-in_err-step
returns-in_err-step c =
    let p = err_from_is_err_and c.from_residual.result c.from_residual.ensures.1 in
    rw (p.1, p.2)
    (reads_fault c.args.input.now c.loop-i.i _ (omega arith)
    (c.in_err-step.ensures.finds (last_byte (take c.loop-i.i c.args.input.now)) c.loop-i.invariant.0)
    ∙ c.loop-i.invariant.1)

pub returns-then-ends_in_lock : goal.returns-then-ends_in_lock
returns-then-ends_in_lock c =
    reads_lock c.args.input.now c.loop-i.i (omega arith)
    (c.in_ok-step.ensures.finds (last_byte (take c.loop-i.i c.args.input.now)) c.loop-i.invariant.0)
    (elim c.match-matches.branch [
      | in-AfterSlash w ↦ slash_after _ (sym c.step.ensures.moves ∙ w.in-AfterSlash.is)
      | in_default w ↦ grind (arith, w.matches-is, c.if-matches.true)
    ]) (sym c.if-ends_in_lock.ensures)
    ∙ c.loop-i.invariant.1

pub loop-i-preserved : goal.loop-i-preserved
loop-i-preserved c =
    let lt : c.loop-i.i < length c.args.input.now = omega arith in
    let clear : allowed ≡ fault_after (last_byte (take c.loop-i.i c.args.input.now)) (get_or c.args.input.now c.loop-i.i 0) =
    c.in_ok-step.ensures.finds (last_byte (take c.loop-i.i c.args.input.now)) c.loop-i.invariant.0 in
    let unlocked : get_or c.args.input.now c.loop-i.i 0 ≡ 47 → ends_in_lock (take c.loop-i.i c.args.input.now) ≡ false =
    elim c.else-matches.branch [
      | else-matches-via-then-matches+else-ends_in_lock w ↦ λ _. sym w.if-ends_in_lock.ensures
      | else-matches-via-else-matches w ↦ λ e. elim c.match-matches.branch [
        | in-AfterSlash v ↦ grind (arith, v.matches-is, w.if-matches.false)
        | in_default v ↦ absurd (v.in_default.not-AfterSlash (c.step.ensures.moves ∙ after_slash _ e))
      ]
    ] in (
      c.step.ensures.moves ∙ ap after (sym (last_byte_more c.args.input.now c.loop-i.i lt)),
      reads_on c.args.input.now c.loop-i.i lt clear unlocked ∙ c.loop-i.invariant.1,
    )

pub returns : goal.returns
unfolding reads
returns c =
    sym (at_drop_all (reads (take c.loop-i.i c.args.input.now)) c.args.input.now c.loop-i.i (omega arith))
    ∙ c.loop-i.invariant.1
