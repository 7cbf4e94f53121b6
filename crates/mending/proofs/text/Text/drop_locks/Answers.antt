use Rattle.std.proofs.Common.{◌++◌, take, drop, sym, ap, ◌∙◌, arith}
use Rattle.std.proofs.lemmas.List.{take-append-drop, take_rest}
use Rattle.tag.specs.Bytes.{ends_in_lock}
use Rattle.mending.specs.Texts.{text_of}
use Rattle.mending.proofs.WithoutLock.{without_lock_done, without_lock_text}
use Rattle.mending.proofs.text.Text.drop_locks.Goals as goal

pub loop-self-preserved : goal.loop-self-preserved
loop-self-preserved c =
    let t = c.loop-self.self in
    let i = c.loop-self.invariant in
    let part = ap (drop c.args.start) (sym c.bytes.ensures) ∙ sym (take_rest c.bytes.result.now c.args.start) in
    let on = without_lock_text t.buffer.now c.args.start t.end t.fits (ap ends_in_lock part ∙ sym c.loop-self-test.ensures) in
    (omega arith, omega arith, i.2, on.1 ∙ i.3, on.2 ∙ i.4)

pub returns : goal.returns
returns c =
    let s = c.args.start in
    let t = c.loop-self.self in
    let i = c.loop-self.invariant in
    let part = ap (drop s) (sym c.bytes.ensures) ∙ sym (take_rest c.bytes.result.now s) in
    record {
      keeps = i.2;
      bound = i.1;
      drops =
          sym (take-append-drop s (text_of t))
          ∙ (ap (λ x. x ++ drop s (text_of t)) i.3
          ∙ ap (λ x. take s (text_of c.args.self.now) ++ x)
          (sym (without_lock_done (drop s (text_of t)) (ap ends_in_lock part ∙ sym c.loop-self-test.ensures)) ∙ i.4));
    }
