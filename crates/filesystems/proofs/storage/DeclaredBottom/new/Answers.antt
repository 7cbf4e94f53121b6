-- The test of the pairs decides what the definition says in words.
use Rattle.filesystems.specs.PairLemmas.{confused-decides}
use Rattle.filesystems.proofs.storage.DeclaredBottom.new.Goals as goal

pub returns-clause-confuses : goal.returns-clause-confuses
returns-clause-confuses c = confused-decides
