-- The loop of `same_key`: what is left decides.
use Rattle.std.proofs.Common.{◌≡◌}
use Rattle.protections.proofs.Trimmed.{Same}
use Rattle.protections.proofs.keys.same_key.Given as goal

abbrev pub invariant-loop-number : goal.invariant-loop-number
invariant-loop-number g l =
    let set = g.P.Keyed.ignored_at_end l.protection in Same set l.initial.left l.initial.right ≡ Same set l.left l.right
