-- Where the bytes differ, the declared pairs decide.
use Rattle.std.proofs.Common.{◌∙◌}
use Rattle.filesystems.proofs.Same.{pairs_decide, pointwise_bytes_eq}
use Rattle.filesystems.proofs.storage.DeclaredBottomFileSystem.lie_together.Goals as goal

pub returns-else-eq-clause-decides : goal.returns-else-eq-clause-decides
returns-else-eq-clause-decides c =
    pairs_decide c.args.self.now c.args.left.now c.args.right.now _ (c.if-eq.ensures ∙ pointwise_bytes_eq c.args.left.now c.args.right.now) c.declares.ensures
