use Rattle.std.specs.Prelude.{refl}
use Rattle.samples.proofs.Components.{com_zero, start_of_character, lpt_zero, no_character, short_link, slash_inside}
use Rattle.samples.proofs.Names.{at_lock, at_sign, dot_and_space, dots_lock, lock_first, locks, only_lock, slash}
use Rattle.samples.proofs.Registers.{below, moved_below}
use Rattle.samples.proofs.proved.Goals as goal

pub returns-clause-count : goal.returns-clause-count
returns-clause-count c = refl

pub returns-clause-each : goal.returns-clause-each
returns-clause-each c = (
  slash,
  (
    at_sign,
    (
      lock_first,
      (
        dot_and_space,
        (
          locks,
          (
            at_lock,
            (
              dots_lock,
              (
                only_lock,
                (lpt_zero, (com_zero, (start_of_character, (no_character, (short_link, (slash_inside, (below, (moved_below, tt)))))))),
              ),
            ),
          ),
        ),
      ),
    ),
  ),
)
