use Rattle.std.proofs.Common.{◌<◌, [], ◌∷◌, length, take, sym, refl, ap, ◌∙◌, arith, below_more}
use Rattle.std.proofs.lemmas.List.{append-nil, take_more_set}
use Rattle.tag.specs.Scanning.{after}
use Rattle.mending.specs.Mender.{replaced}
use Rattle.mending.proofs.Following.{last_or}
use Rattle.mending.proofs.Replacing.{last_or_more, replaces_on}
use Rattle.mending.proofs.text.write_replaced.Goals as goal
use Rattle.mending.proofs.text.write_replaced.Goals.{in-Some, in_default}

pub loop-i-init : goal.loop-i-init
unfolding replaced
loop-i-init c = (refl, refl, omega arith, λ k l. absurd (omega arith))

pub loop-i-preserved : goal.loop-i-preserved
loop-i-preserved c =
    let s = c.args.rest.now in
    let i = c.loop-i.i in
    let e = c.loop-i.end in
    let inv = c.loop-i.invariant in
    let lt : i < length s = omega arith in
    let room : e < length c.loop-i.out = omega arith in
    let other = c.if-byte-eq47.false in
    let on = replaces_on s i lt (take e c.loop-i.out) in (
      c.mended_byte.ensures.moves ∙ ap after (sym (last_or_more s i lt)),
      elim c.match-mended_byte.branch [
        | in-Some w ↦
            rw (w.out-is, w.end-is) (take_more_set c.loop-i.out e w.in-Some.mended room
            ∙ on (w.in-Some.mended ∷ []) inv.1 (w.in-Some.ensures.mends (last_or 47 (take i s)) inv.0 other))
        | in_default w ↦
            rw (w.out-is, w.end-is) (sym (append-nil (take e c.loop-i.out))
            ∙ on [] inv.1 (w.in_default.ensures.mends (last_or 47 (take i s)) inv.0 other))
      ],
      elim c.match-mended_byte.branch [ in-Some w ↦ omega (arith, w.end-is) | in_default w ↦ omega (arith, w.end-is) ],
      below_more _ _ inv.3 other,
    )
