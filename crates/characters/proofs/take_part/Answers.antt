-- `take_part` takes the first of the parts, and leaves the others.
use Rattle.std.proofs.Common.{refl}
use Rattle.characters.proofs.Steps.{took, whole_law}
use Rattle.characters.proofs.take_part.Goals as goal

pub returns-in_err-part : goal.returns-in_err-part
returns-in_err-part c =
    let empty = c.in_err-part.ensures.standard in
    rw c.from_residual.ensures (record { parts = refl; taken = (empty, empty); whole = whole_law c.args.rest.now.now })

pub returns : goal.returns
returns c =
    let s = c.args.rest.now.now in
    let t = took s c.in_ok-part.part c.length.result c.in_ok-part.ensures.value c.length.ensures in
    record { parts = t.0; taken = (c.in_ok-part.ensures.standard, t.1); whole = whole_law s }
