-- Components lie together by the key of the protection, or below.
use Rattle.std.proofs.lemmas.Bool.Decides.{Decides-or}
use Rattle.protections.proofs.Equal.{bytes_eq-decides}
use Rattle.filesystems.proofs.layers.Layer.new.Goals as goal

pub returns-clause-confuses : goal.returns-clause-confuses
returns-clause-confuses g c = λ a b. Decides-or _ _ (bytes_eq-decides _ _) (λ e. e, λ e. e)
