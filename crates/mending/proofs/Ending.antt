-- Mending the ends of a text.
use Rattle.std.proofs.Common.{◌≡◌, ℕ, ◌-◌, ◌<◌, ◌≤◌, true, List, length, take, set, sym, ap, ◌∙◌, arith}
use lib.Seq.{take-set-lt}
use Rattle.std.proofs.lemmas.Grind.{common_steps}
use Rattle.std.proofs.lemmas.List.{length-take-le}
use Rattle.mending.specs.Mender.{dash_end, dash_alone}
use Rattle.mending.specs.Steps.{wants_dash}

-- Where a dash is wanted, it takes the place of the last byte.
ends_dash : (t : List ℕ) → 0 < length t → wants_dash t ≡ true → set t (length t - 1) 45 ≡ dash_alone (dash_end t)
ends_dash t l w = grind (arith, common_steps)

-- The same of the first `end` bytes of a buffer.
pub dash_written : (out : List ℕ) (end : ℕ) → 0 < end → end ≤ length out → wants_dash (take end out) ≡ true
    → take end (set out (end - 1) 45) ≡ dash_alone (dash_end (take end out))
dash_written out end l fits w =
    let n : length (take end out) ≡ end = length-take-le end out fits in
    take-set-lt end out (end - 1) 45 (omega arith)
    ∙ (ap (λ k. set (take end out) (k - 1) 45) (sym n) ∙ ends_dash (take end out) (omega arith) w)
