-- Verdicts that stay the same while both ends grow.
use Rattle.std.proofs.Common.{◌≡◌, ℕ, zero, suc, ◌+◌, ◌*◌, ◌/◌, ◌≤◌, Bool, refl, ◌∙◌, ap, arith}
use Rattle.std.specs.Prelude.{ℤ, pos, ◌+ℤ◌, ◌-ℤ◌, ◌*ℤ◌, int_le, int_lt, nat_eq, ◌||◌, ◌&&◌}
use Rattle.std.proofs.lemmas.Int.{ints}
use Rattle.std.proofs.Math.IntN.{zero-*ℤ, suc_ℤ-*ℤ}
use Rattle.std.proofs.Math.Nat.{mul-div-le}
use Rattle.weights.specs.declared.rules.Rule.TheVariants.{Far}
use Rattle.networks.specs.Judged.{offset, settled, far_verdict, verdict_of}

pub settled-same : (a b x y : Bool) → x ≡ a → y ≡ b → settled x y ≡ settled a b
settled-same a b x y e f = ap (λ p. settled p y) e ∙ ap (λ p. settled a p) f

pub far-same : (d : ℕ) (a b x y : ℤ) → int_le (pos d) x ≡ int_le (pos d) a → int_le y (pos 0 -ℤ pos d) ≡ int_le b (pos 0 -ℤ pos d) → int_lt y (pos d) ≡ int_lt b (pos d) → int_lt (pos 0 -ℤ pos d) x ≡ int_lt (pos 0 -ℤ pos d) a → far_verdict d x y ≡ far_verdict d a b
far-same d a b x y reached within below passed =
    ap (λ p. settled (nat_eq d 0 || p || int_le y (pos 0 -ℤ pos d)) (int_lt y (pos d) && int_lt (pos 0 -ℤ pos d) x)) reached
    ∙ ap (λ p. settled (nat_eq d 0 || int_le (pos d) a || p) (int_lt y (pos d) && int_lt (pos 0 -ℤ pos d) x)) within
    ∙ ap (λ p. settled (nat_eq d 0 || int_le (pos d) a || int_le b (pos 0 -ℤ pos d)) (p && int_lt (pos 0 -ℤ pos d) x)) below
    ∙ ap (λ p. settled (nat_eq d 0 || int_le (pos d) a || int_le b (pos 0 -ℤ pos d)) (int_lt b (pos d) && p)) passed

-- a factor times a number that has grown
pub times-grown : (q d : ℕ) (x : ℤ) → pos q *ℤ (x +ℤ pos d) ≡ (pos q *ℤ x) +ℤ pos (q * d)
times-grown zero d x = rw (zero-*ℤ (x +ℤ pos d), zero-*ℤ x) (let e : 0 * d ≡ 0 = omega arith in rw e refl)
times-grown (suc q) d x =
    let more : suc q * d ≡ q * d + d = omega arith in
    rw more (omega (arith, ints, suc_ℤ-*ℤ (pos q) (x +ℤ pos d), suc_ℤ-*ℤ (pos q) x, times-grown q d x))

pub offset-grown : (q d : ℕ) (c x : ℤ) → offset q c (x +ℤ pos d) ≡ offset q c x +ℤ pos (q * d)
offset-grown q d c x =
    ap (λ z. z -ℤ c) (times-grown q d x) ∙ swap (pos q *ℤ x) (pos (q * d)) c
  where
    swap : (a b c : ℤ) → (a +ℤ b) -ℤ c ≡ (a -ℤ c) +ℤ b
    swap a b c = omega (arith, ints)

-- so many times the factor is still within
pub within-quotient : (d q m : ℕ) → d ≤ m / q → q * d ≤ m
within-quotient d q m h = at_most (q * d) (q * (m / q)) m (times d (m / q) q h) (mul-div-le m q)
  where
    times : (a b q : ℕ) → a ≤ b → q * a ≤ q * b
    times a b q h = grind arith

    at_most : (a b c : ℕ) → a ≤ b → b ≤ c → a ≤ c
    at_most a b c h i = omega (arith, h, i)

pub far-grown : (q d : ℕ) (c : ℤ) (distance : ℕ) (low high : ℤ) → far_verdict distance (offset q c low +ℤ pos (q * d)) (offset q c high +ℤ pos (q * d)) ≡ far_verdict distance (offset q c low) (offset q c high) → verdict_of (Far q c distance) (low +ℤ pos d) (high +ℤ pos d) ≡ verdict_of (Far q c distance) low high
far-grown q d c distance low high told =
    ap (λ z. far_verdict distance z (offset q c (high +ℤ pos d))) (offset-grown q d c low)
    ∙ ap (λ z. far_verdict distance (offset q c low +ℤ pos (q * d)) z) (offset-grown q d c high)
    ∙ told
