use Rattle.std.proofs.Common.{rules, ◌≡◌, ◌-◌, ◌++◌, length, replicate, ap, ◌∙◌, arith}
use Rattle.mending.specs.Mender.{dash_alone, dash_end, mended, room}
use Rattle.mending.specs.Texts.{text_of}
use Rattle.mending.proofs.Adding.{same_buffer}
use Rattle.mending.proofs.Filling.{written_mended}
use Rattle.mending.proofs.fill_room.Goals as goal

pub returns : goal.returns
returns c =
    let s = c.args.input.now in
    let p = c.push_components.ensures in
    let made : text_of c.mend_ends.new.self ≡ mended s =
    c.mend_ends.ensures.mends ∙ (ap (λ t. dash_alone (dash_end t)) p.adds ∙ written_mended s) in
    let same = same_buffer c.new-text.result c.push_components.new.self c.mend_ends.new.self p.keeps c.mend_ends.ensures.keeps in
    let bytes = ap length c.new-text.ensures.same_bytes in
    let full : length c.mend_ends.new.self.buffer.now ≡ room s = omega arith in
    let left : c.finish.new.self.0 ≡ mended s ++ replicate (room s - c.finish.result) 0 = rw (made, full) at c.finish.ensures.cleared in
    let name : c.mend_ends.new.self.buffer.ghost_name ≡ c.new-text.result.buffer.ghost_name = same.0 in
    record { text = c.finish.ensures.value ∙ ap length made; buffer = search rules }
