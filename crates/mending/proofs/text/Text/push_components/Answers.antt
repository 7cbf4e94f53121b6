use Rattle.std.proofs.Common.{◌≡◌, ◌+◌, ◌-◌, ◌<◌, length, take, drop, sym, ap, ◌∙◌, arith}
use Rattle.std.proofs.lemmas.List.{length-drop, take_all, take_rest}
use Rattle.tag.specs.Components.{components}
use Rattle.mending.specs.Steps.{add, add_all}
use Rattle.mending.specs.Texts.{text_of}
use Rattle.mending.proofs.Adding.{gap_bounds, same_buffer}
use Rattle.mending.proofs.FirstComponent.{first_component, only_component}
use Rattle.mending.proofs.text.Text.push_components.Goals as goal

pub returns-then-read-rest : goal.returns-then-read-rest
unfolding add_all
returns-then-read-rest c =
    let a = c.push_component-read.ensures in
    let t = c.loop-rest.self in
    let rest = c.loop-rest.rest.now in
    let read = c.push_component-read.result in
    let e : read ≡ length rest = c.if-read-rest.true in
    record {
      keeps = same_buffer c.args.self.now t c.push_component-read.new.self c.loop-rest.invariant.2 a.keeps;
      adds =
          a.adds
          ∙ ap (add (text_of t)) (take_all read rest (omega arith))
          ∙ ap (add_all (text_of t)) (sym (only_component rest read a.reads e))
          ∙ c.loop-rest.invariant.0;
    }

pub loop-rest-preserved : goal.loop-rest-preserved
unfolding add_all
loop-rest-preserved c =
    let a = c.push_component-read.ensures in
    let t = c.loop-rest.self in
    let rest = c.loop-rest.rest.now in
    let read = c.push_component-read.result in
    let l : read < length rest = omega arith in
    let r : take (length rest - (read + 1)) (drop (read + 1) rest) ≡ drop (read + 1) rest = take_rest rest (read + 1) in
    let same = same_buffer c.args.self.now t c.push_component-read.new.self c.loop-rest.invariant.2 a.keeps in (
      ap (add_all (text_of c.push_component-read.new.self)) (ap components r)
          ∙ ap (λ x. add_all x (components (drop (read + 1) rest))) a.adds
          ∙ ap (add_all (text_of t)) (sym (first_component rest read a.reads l))
          ∙ c.loop-rest.invariant.0,
      let g = gap_bounds c.push_component-read.new.self.end in simp (r, length-drop) (omega (arith, a.keeps.1)),
      same,
    )
