use Rattle.std.proofs.Common.{◌≡◌, ◌<◌, ◌++◌, length, get_or, take, sym, ap, ◌∙◌, subst, ⊎_elim, refl, arith}
use Rattle.std.proofs.lemmas.Bool.{cases_eq, eqb-false, or_parts}
use Rattle.std.proofs.lemmas.List.{length-take-le}
use Rattle.mending.specs.Mender.{mended_component}
use Rattle.mending.specs.Texts.{text_of}
use Rattle.mending.proofs.Adding.{adds_first, adds_more, mended_behind, gap_bounds, gap_more, same_buffer}
use Rattle.mending.proofs.text.Text.push_component.Goals as goal
use Rattle.mending.proofs.text.Text.push_component.Goals.{then-self-gt0, else-self-gt0}

pub returns : goal.returns
returns c =
    let text = c.if-self-gt0.self in
    let left = text_of c.drop_locks.new.self in
    let before = text_of c.args.self.now in
    let h = c.push_replaced-read.ensures in
    let read = c.push_replaced-read.result in
    let s = take read c.args.rest.now in
    let k = c.drop_locks.ensures in
    let g = gap_bounds c.args.self.now.end in
    let n : length (text_of text) ≡ text.end = length-take-le text.end text.buffer.now text.fits in
    let filled = or_parts _ _ (sym c.if-begins_empty.ensures) in
    let some_byte = eqb-false (length c.args.rest.now) 0 filled.0 in
    let no_slash = eqb-false (get_or c.args.rest.now 0 0) 47 filled.1 in
    let some_read : 0 < read =
    ⊎_elim
    (λ z. absurd (no_slash (subst (λ n. get_or c.args.rest.now n 0 ≡ 47) z (h.reads.2 (omega (arith, z))))))
    (λ n. omega (arith, n))
    (cases_eq read 0)
    in
    let some : 0 < length s = omega (arith, length-take-le read c.args.rest.now h.reads.0) in
    let made : left ≡ text_of text ++ mended_component s = mended_behind (text_of text) (text_of c.push_replaced-read.new.self) left s text.end n h.adds k.drops in
    let after = same_buffer text c.push_replaced-read.new.self c.drop_locks.new.self h.keeps k.keeps in
    record {
      reads = h.reads;
      keeps =
          elim c.if-self-gt0.branch [
            | then-self-gt0 w ↦ same_buffer c.args.self.now text c.drop_locks.new.self (rw w.self-is w.push.ensures.keeps) after
            | else-self-gt0 w ↦ same_buffer c.args.self.now text c.drop_locks.new.self (rw w.self-is (refl, refl)) after
          ];
      adds =
          elim c.if-self-gt0.branch [
            | then-self-gt0 w ↦
                adds_more before left s some (omega (arith, length-take-le c.args.self.now.end c.args.self.now.buffer.now c.args.self.now.fits, w.if-self-gt0.true))
                (made ∙ ap (λ t. text_of t ++ mended_component s) w.self-is ∙ ap (λ t. t ++ mended_component s) w.push.ensures.adds)
            | else-self-gt0 w ↦
                let none : c.args.self.now.end ≡ 0 = omega arith in
                rw none (adds_first left s some (made ∙ ap (λ t. text_of t ++ mended_component s) w.self-is ∙ rw none refl))
          ];
      bound = elim c.if-self-gt0.branch [
        | then-self-gt0 w ↦ omega (arith, ap (λ t. t.end) w.self-is, gap_more c.args.self.now.end w.if-self-gt0.true)
        | else-self-gt0 w ↦ omega (arith, ap (λ t. t.end) w.self-is)
      ];
    }
