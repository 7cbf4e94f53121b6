use Rattle.std.proofs.Common.{◌≡◌, ◌<◌, min, length, ◌∙◌, zero-mul, arith}
use Rattle.std.specs.Iterator.Adapters.{enumerate_count, take_count, take_source}
use Rattle.register.specs.Registers.{state_in}
use Rattle.gushteral_c.specs.Batch.{names_in}
use Rattle.gushteral_c.proofs.Entering.{all_entered, all_taken, next_name, none_yet, one_more}
use Rattle.gushteral_c.proofs.batch.enter_names.Goals as goal

pub returns-then-length-eq0 : goal.returns-then-length-eq0
returns-then-length-eq0 c =
    let none : 0 ≡ min (names_in c.args.length c.args.names.now) (length c.args.answers.now) = rw c.if-length-eq0.true (omega arith) in
    let entered = none_yet (state_in c.args.register.now) c.args.length c.args.names.now c.args.answers.now in
    rw (← none) (record { answers = all_entered _ _ _ _ _ _ _ entered; state = entered.left })

pub loop-index-init : goal.loop-index-init
loop-index-init c = rw (c.into_iter-index-iterator.ensures.into_iter_gives, c.take-index-items.ensures.source, c.take-index-items.ensures.count, c.enumerate.ensures.source, c.enumerate.ensures.count) (record {
  entered = none_yet _ _ _ _;
  size = c.chunks_exact.ensures.size;
  rest = rw zero-mul c.chunks_exact.ensures.rest;
  within = omega arith;
  room = omega arith;
})

pub loop-index-preserved : goal.loop-index-preserved
loop-index-preserved c =
    let step = c.in-Some.ensures.steps in
    let chunk = step.0.0.1 in
    let so_far = c.loop-index.invariant in
    let it = c.loop-index.index-iterator in
    let i = enumerate_count (take_source it) in
    let some : 0 < c.args.length = omega arith in
    let room : i < length c.loop-index.answers = omega (arith, step.1, so_far.room, c.loop-index.auto.answers) in
    let name = next_name c.args.length c.args.names.now some i _ so_far.within so_far.rest c.in-Some.name.now _ chunk.0 (chunk.1 ∙ so_far.size) in
    rw (step.0.2, step.0.1) (record {
      entered = one_more _ _ _ _ i _ _ room so_far.entered _ _ (rw name.0 at c.enter_name.ensures.answer) (rw (name.0, step.0.1) at c.enter_name.ensures.state);
      size = step.0.0.0 ∙ so_far.size;
      rest = name.1;
      within = name.2;
      room = omega (arith, step.1, so_far.room);
    })

pub returns : goal.returns
returns c =
    let so_far = c.loop-index.invariant in
    let it = c.loop-index.index-iterator in
    let i = enumerate_count (take_source it) in
    let some : 0 < c.args.length = omega arith in
    let end = all_taken c.args.length c.args.names.now some i _ so_far.within so_far.rest (take_count it) (length c.args.answers.now) so_far.room
    (λ more. let last = (c.in-None.ensures.steps more).0.1 in omega (arith, last.0, so_far.size)) in
    rw (← end) (record { answers = all_entered _ _ _ _ _ _ _ so_far.entered; state = so_far.entered.left })
