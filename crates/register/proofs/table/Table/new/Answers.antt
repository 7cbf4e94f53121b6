use Rattle.std.proofs.Common.{arith}
use Rattle.register.proofs.table.Table.new.Goals as goal

pub invariant_of-result : goal.invariant_of-result
invariant_of-result c = rw c.new.ensures (λ k d low high. absurd (omega arith))
