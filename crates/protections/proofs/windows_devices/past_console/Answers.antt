-- The first byte tells which name it can be.
use Rattle.std.proofs.Common.{refl, arith, rules}
use Rattle.std.proofs.lemmas.Bool.Decides.{nat_tests}
use Rattle.protections.specs.NameEnds.{is_ended_key}
use Rattle.protections.proofs.Devices.{console, console_in, console_out}
use Rattle.protections.proofs.windows_devices.past_console.Goals as goal
use Rattle.protections.proofs.windows_devices.past_console.Goals.{in_default-via-then-rest-lt1, in_default-via-else-rest-lt1+in_default-1}

pub past_name-requires : goal.past_name-requires
unfolding is_ended_key
past_name-requires c = refl

pub past_name-requires-in-111 : goal.past_name-requires-in-111
unfolding is_ended_key
past_name-requires-in-111 c = refl

pub returns-in-105 : goal.returns-in-105
returns-in-105 c =
    console_in c.args.rest.now _ (search rules) (grind (arith, nat_tests)) c.past_name.ensures

pub returns-in-111 : goal.returns-in-111
returns-in-111 c =
    console_out c.args.rest.now _ (search rules) (grind (arith, nat_tests)) c.past_name-in-111.ensures

pub returns-in_default : goal.returns-in_default
returns-in_default c =
    elim c.in_default.branch [
      | in_default-via-then-rest-lt1 w ↦ console c.args.rest.now _ (λ l e. grind (arith, nat_tests)) (λ l e. grind (arith, nat_tests)) refl
      | in_default-via-else-rest-lt1+in_default-1 w ↦
          console c.args.rest.now _ (λ l e. grind (arith, nat_tests)) (λ l e. grind (arith, nat_tests)) refl
    ]
