use Rattle.std.proofs.Common.{◌<◌, ◌≤◌, length, arith, rules}
use Rattle.listing.proofs.Numbers.{below_power}
use Rattle.listing.proofs.lines_read.read_number.Goals as goal

pub overflow_mul-number : goal.overflow_mul-number
overflow_mul-number c =
    let few : length c.args.digits.now ≤ 9 = search rules in
    let small : c.loop-digit.number < 100000000 = below_power _ c.loop-digit.digit-index c.loop-digit.invariant.below (omega arith) in omega arith

pub overflow_add-number : goal.overflow_add-number
overflow_add-number c =
    let few : length c.args.digits.now ≤ 9 = search rules in
    let small : c.loop-digit.number < 100000000 = below_power _ c.loop-digit.digit-index c.loop-digit.invariant.below (omega arith) in
    omega (arith, c.in_ok-number.ensures.value.0, c.in_ok-number.ensures.value.1)
