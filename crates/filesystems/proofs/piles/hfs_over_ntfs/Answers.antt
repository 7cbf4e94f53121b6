-- Components lie together by one of the three keys.
use Rattle.protections.specs.Keys.{hfs_key, ntfs_key}
use Rattle.filesystems.proofs.Heaped.{three_decides}
use Rattle.filesystems.proofs.piles.hfs_over_ntfs.Goals as goal

pub returns-clause-confuses : goal.returns-clause-confuses
returns-clause-confuses c = three_decides hfs_key ntfs_key
