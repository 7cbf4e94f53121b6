-- A number read digit by digit.
use Rattle.std.proofs.Common.{◌≡◌, ℕ, ◌+◌, ◌*◌, ◌^◌, ◌<◌, ◌≤◌, ap, ◌∙◌, pow-suc, add-one, arith}
use native.Mathlib.Nat.{pow-le-pow_right}

-- One digit more makes the number ten times as large at most.
pub below_more : (n d i : ℕ) → n < 10 ^ i → d ≤ 9 → n * 10 + d < 10 ^ (i + 1)
below_more n d i h l =
    let e : 10 ^ (i + 1) ≡ 10 ^ i * 10 = ap (λ k. 10 ^ k) (add-one i) ∙ pow-suc 10 i in omega arith

-- A number of at most eight digits.
pub below_power : (n i : ℕ) → n < 10 ^ i → i < 9 → n < 100000000
below_power n i h l =
    let ten : 0 < 10 = omega arith in
    let p : 10 ^ i ≤ 10 ^ 8 = pow-le-pow_right ten (let k : i ≤ 8 = omega arith in k) in omega arith
