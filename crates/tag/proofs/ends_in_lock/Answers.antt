use Rattle.std.proofs.Common.{length, take, ◌-◌, eqb}
use Rattle.std.proofs.lemmas.Bool.Decides.{Decides-eqb, same_from_decides}
use Rattle.std.proofs.lemmas.Slice.Eq.{ends_is}
use Rattle.tag.specs.Bytes.{dot_lock, ends_in_lock}
use Rattle.tag.proofs.Locks.{lock_decides}
use Rattle.tag.proofs.ends_in_lock.Goals as goal

pub returns : goal.returns
returns c =
    let s = c.args.bytes.now in
    let ends = ends_is {E = eqb} Decides-eqb s dot_lock c.ends_with.result c.ends_with.ensures.value in
    same_from_decides c.ends_with.result (ends_in_lock s)
    (λ t. (take (length s - 5) s, ends.0 t), λ h. ends.1 h.0 h.1)
    (lock_decides s)
