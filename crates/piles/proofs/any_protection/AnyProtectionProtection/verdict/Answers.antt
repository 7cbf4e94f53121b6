-- What NTFS says of links, in words.
use Rattle.piles.proofs.Linked.{ntfs_link}
use Rattle.piles.proofs.any_protection.AnyProtectionProtection.verdict.Goals as goal

pub returns-in-Ntfs-clause-link : goal.returns-in-Ntfs-clause-link
returns-in-Ntfs-clause-link c = rw (c.in-Ntfs.is, c.verdict-in-Ntfs.ensures.value) (ntfs_link c.args.component.now c.args.mode)
