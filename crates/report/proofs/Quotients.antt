-- Quotients in millionths, digit by digit.
use Rattle.std.proofs.Common.{◌≡◌, ◌≤◌, ◌<◌, ◌+◌, ◌-◌, ◌*◌, ◌/◌, ◌^◌, ℕ, sym, ◌∙◌, ap, arith, add-one}
use Rattle.std.proofs.Math.Nat.{le_of_mul-le-mul_right, mul-le-mul_left, pow-succ'}
use Rattle.std.proofs.lemmas.Nat.{div-mul-add}
use Rattle.report.specs.Decimals.{millionths}

pub ten-more : (turn : ℕ) → 10 ^ (turn + 1) ≡ 10 * 10 ^ turn
ten-more turn = rw add-one (pow-succ' 10 turn)

-- one more digit of a quotient
pub digit-more : (turn numerator denominator whole rest digit left : ℕ) → 10 ^ turn * numerator ≡ whole * denominator + rest → 10 * rest ≡ digit * denominator + left
    → 10 ^ (turn + 1) * numerator ≡ (10 * whole + digit) * denominator + left
digit-more turn numerator denominator whole rest digit left so_far next =
    rw (ten-more turn) (by (10 ^ turn) so_far)
  where
    by : (p : ℕ) → p * numerator ≡ whole * denominator + rest → 10 * p * numerator ≡ (10 * whole + digit) * denominator + left
    by p e = omega (arith, e, next)

-- the whole part of a quotient of at most 1, times a power of ten, is at most that power
pub whole-le : (power numerator denominator whole rest : ℕ) → numerator ≤ denominator → 0 < denominator → power * numerator ≡ whole * denominator + rest → whole ≤ power
whole-le power numerator denominator whole rest part some is =
    le_of_mul-le-mul_right {k = denominator} (omega (arith, is, mul-le-mul_left power part)) some

whole-is : (numerator denominator whole rest : ℕ) → 1000000 * numerator ≡ whole * denominator + rest → 2000000 * numerator + denominator ≡ whole * (2 * denominator) + (2 * rest + denominator)
whole-is numerator denominator whole rest is = omega (arith, is)

-- the rest is half a denominator or more
pub rounded-up : (numerator denominator whole rest : ℕ) → 1000000 * numerator ≡ whole * denominator + rest → rest < denominator → denominator ≤ 2 * rest → whole + 1 ≡ millionths numerator denominator
rounded-up numerator denominator whole rest is below large =
    let more : 2000000 * numerator + denominator ≡ (whole + 1) * (2 * denominator) + (2 * rest - denominator) = omega (arith, whole-is numerator denominator whole rest is) in
    sym (ap (λ n. n / (2 * denominator)) more ∙ div-mul-add (whole + 1) (2 * denominator) (2 * rest - denominator) (omega arith))
