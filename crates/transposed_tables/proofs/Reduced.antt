-- Parts of totals, without what the totals have in common.
use Rattle.std.proofs.Common.{◌≡◌, ℕ, zero, suc, ◌+◌, ◌*◌, ◌/◌, ◌%◌, ◌<◌, ◌≤◌, ◌∙◌, ap, arith}
use Rattle.std.specs.Int.{IsGcd}
use Rattle.std.proofs.Math.Nat.{dvd-mul_left, mod-add-div, mul-div_cancel, mul-le-mul_right, zero-div}
use Rattle.std.proofs.lemmas.Nat.Gcd.{mod-eq-zero_of_dvd}
use Rattle.completion_bounds.proofs.Factorials.{cancel}
use Rattle.weights.proofs.Divisors.{quotient-reduced}

pub ratio-reduced : (total part of g : ℕ) → 0 < of → IsGcd total of g → (total * part) % of ≡ 0 → (total / g) * (part / (of / g)) * of ≡ part * total
ratio-reduced total zero of g some h whole =
    ap (λ n. (total / g) * n * of) (zero-div (of / g)) ∙ nothing (total / g) of
  where
    nothing : (a b : ℕ) → a * 0 * b ≡ 0 * total
    nothing a b = grind arith
ratio-reduced total (suc part) of g some h whole =
    let least : (total * suc part) / of ≡ (total / g) * (suc part / (of / g)) = quotient-reduced total (suc part) of g some (omega arith) h whole in
    let parts : (total * suc part) % of + of * ((total * suc part) / of) ≡ total * suc part = mod-add-div (total * suc part) of in
    rw (← least) (turn of ((total * suc part) / of) (total * suc part) ((total * suc part) % of) whole parts ∙ swapped total (suc part))
  where
    turn : (b q n r : ℕ) → r ≡ 0 → r + b * q ≡ n → q * b ≡ n
    turn b q n r e f = let one : q * b ≡ b * q = grind arith in omega (arith, one, e, f)

    swapped : (a b : ℕ) → a * b ≡ b * a
    swapped a b = grind arith

-- a part that is no greater than its total stays so
pub ratio-within : (result part total of : ℕ) → 0 < of → part ≤ of → result * of ≡ part * total → result ≤ total
ratio-within result part total of some h e =
    let most : part * total ≤ of * total = mul-le-mul_right total h in
    let same : of * total ≡ total * of = grind arith in
    cancel result total of some (omega (arith, e, most, same))

-- a multiple divided
pub quotient : (a of m : ℕ) → 0 < of → a * of ≡ m → m / of ≡ a
quotient a of m some e = rw (← e) (mul-div_cancel a some)

-- a multiple leaves no rest
pub no-rest : (n of m : ℕ) → 0 < of → n * of ≡ m → m % of ≡ 0
no-rest n of m some e = rw (← e) (mod-eq-zero_of_dvd of (dvd-mul_left of n))
