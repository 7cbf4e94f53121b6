-- Components lie together by the key of NTFS, or where they are equal.
use Rattle.protections.specs.Keys.{ntfs_key}
use Rattle.filesystems.proofs.Heaped.{four_decides}
use Rattle.filesystems.proofs.piles.windows_pile.Goals as goal

pub returns-clause-confuses : goal.returns-clause-confuses
returns-clause-confuses c = four_decides ntfs_key ntfs_key
