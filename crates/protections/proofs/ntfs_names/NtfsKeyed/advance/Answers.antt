-- The first byte is no colon.
use Rattle.std.proofs.Common.{arith}
use Rattle.std.proofs.lemmas.Bool.Decides.{nat_tests}
use Rattle.protections.proofs.Stream.{until_colon}
use Rattle.protections.proofs.ntfs_names.NtfsKeyed.advance.Goals as goal
use Rattle.protections.proofs.ntfs_names.NtfsKeyed.advance.Goals.{in_default-via-then-rest-lt1, in_default-via-else-rest-lt1+in_default-1}

pub returns-in_default : goal.returns-in_default
returns-in_default c =
    until_colon c.args.rest.now.now _ c.take_small.result (elim c.in_default.branch [
      | in_default-via-then-rest-lt1 w ↦ λ l e. grind (arith, nat_tests)
      | in_default-via-else-rest-lt1+in_default-1 w ↦ λ l e. grind (arith, nat_tests)
    ]) c.take_small.ensures
