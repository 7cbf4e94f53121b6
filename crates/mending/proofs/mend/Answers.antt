-- The mended text stands at the front of the buffer.
use Rattle.std.proofs.Common.{sym, ◌∙◌, subst}
use Rattle.mending.specs.Mender.{mended}
use Rattle.mending.specs.Mends.{Mends}
use Rattle.mending.proofs.MendsText.{mends_mended, mends_only}
use Rattle.mending.proofs.Written.{made_front}
use Rattle.mending.proofs.mend.Goals as goal

pub returns-clause-mends : goal.returns-clause-mends
returns-clause-mends c =
    let s = c.args.input.now in
    let f = c.fill_room.ensures in
    subst (Mends s) (sym (made_front (mended s) _ _ _ _ f.text f.buffer)) (mends_mended s)

pub returns-clause-no_other : goal.returns-clause-no_other
returns-clause-no_other c =
    let s = c.args.input.now in
    let f = c.fill_room.ensures in
    λ t m. mends_only s t m ∙ sym (made_front (mended s) _ _ _ _ f.text f.buffer)
