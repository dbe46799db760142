-- How many bits each of k digits has in one number.
use Rattle.std.proofs.Common.{◌≡◌, ℕ, zero, suc, ◌+◌, ◌*◌, ◌/◌, ◌^◌, ◌≤◌, sym, ◌∙◌, ap, subst, arith}
use Rattle.std.proofs.Math.Nat.{div-mul-le_self, mul-le-mul_left, pow-le-pow_right, pow-succ', pow-zero}
use Rattle.std.proofs.lemmas.Nat.{pow-add}
use Rattle.weights.specs.declared.TheConstants.{MAX}

powers : (b k : ℕ) → (2 ^ b) ^ k ≡ 2 ^ (k * b)
powers b zero = pow-zero (2 ^ b) ∙ sym (ap (λ n. 2 ^ n) (none b))
  where
    none : (b : ℕ) → 0 * b ≡ 0
    none b = omega arith
powers b (suc k) =
    pow-succ' (2 ^ b) k ∙ ap (λ n. 2 ^ b * n) (powers b k) ∙ sym (pow-add 2 b (k * b)) ∙ ap (λ n. 2 ^ n) (more k b)
  where
    more : (k b : ℕ) → b + k * b ≡ suc k * b
    more k b = omega arith

-- of two digits already each has no more
pub bits-few : (k : ℕ) → 2 ≤ k → 127 / k ≤ 63
bits-few k some = omega (arith, div-mul-le_self 127 k, mul-le-mul_left (127 / k) some)

pub bits-fit : (k : ℕ) → (2 ^ (127 / k)) ^ k ≤ MAX + 1
bits-fit k =
    let all : k * (127 / k) ≤ 127 = omega (arith, div-mul-le_self 127 k) in
    subst (λ n. n ≤ MAX + 1) (sym (powers (127 / k) k)) (below (k * (127 / k)) all)
  where
    below : (n : ℕ) → n ≤ 127 → 2 ^ n ≤ MAX + 1
    below n h = pow-le-pow_right (omega arith) h
