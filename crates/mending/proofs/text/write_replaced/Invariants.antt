-- The bytes read so far hold no slash and stand replaced at the front of the buffer; the scanner is after the last of them.
use Rattle.std.proofs.Common.{◌≡◌, ℕ, ◌<◌, ◌≤◌, get_or, take}
use Rattle.tag.specs.Scanning.{after}
use Rattle.mending.specs.Mender.{replaced}
use Rattle.mending.proofs.Following.{last_or}
use Rattle.mending.proofs.text.write_replaced.Given as goal

abbrev pub invariant-loop-i : goal.invariant-loop-i
invariant-loop-i l =
    (l.scanner ≡ after (last_or 47 (take l.i l.rest)))
    × (take l.end l.out ≡ replaced 47 (take l.i l.rest))
    × (l.end ≤ l.i)
    × ((k : ℕ) → k < l.i → get_or l.rest k 0 ≡ 47 → ⊥)
