-- Components lie together by one of the keys, or in the bottom that was given.
use Rattle.std.proofs.Common.{◌≡◌}
use Rattle.protections.specs.Keys.{hfs_key, ntfs_key}
use Rattle.filesystems.proofs.Heaped.{six_decides}
use Rattle.filesystems.proofs.piles.all_protections.Goals as goal

pub returns-clause-confuses : goal.returns-clause-confuses
returns-clause-confuses c =
    let bottom : c.new-5.result.below.below.below.below.below ≡ c.args.bottom = cc in
    λ a b. rw bottom (six_decides hfs_key ntfs_key a b c.args.bottom)
