-- Squares of distances from a centre: more is known of them where more is known of the numbers, and at last they tell the squares of these.
use Rattle.std.proofs.Common.{◌≡◌, ℕ, suc, ◌+◌, ◌-◌, ◌*◌, ◌/◌, ◌≤◌, List, [], ◌∷◌, length, sym, ◌∙◌, ap, arith, inl, inr, div-mul-le_self}
use Rattle.std.specs.List.{sum, sum_by}
use Rattle.std.proofs.Math.Nat.{mul-le-mul}
use Rattle.std.proofs.lemmas.Bool.{cases_lt}
use Rattle.std.proofs.lemmas.List.Sums.{sum_by-cons}
use Rattle.weights.proofs.Sums.{sum_by-same}
use Rattle.networks.specs.Distances.{correction, far_square, farthest, near_square, nearest, squared}

pub squares-rise : (a b : ℕ) → a ≤ b → squared a ≤ squared b
squares-rise a b h = mul-le-mul h h

-- what is said of a number between two ends rises, or falls, as these draw together
abbrev pub Rises : (ℕ → ℕ → ℕ) → Type 0
Rises f = (low high low' high' : ℕ) → low ≤ low' → high' ≤ high → f low high ≤ f low' high'

abbrev pub Falls : (ℕ → ℕ → ℕ) → Type 0
Falls f = (low high low' high' : ℕ) → low ≤ low' → high' ≤ high → f low' high' ≤ f low high

pub near-rises : (q : ℕ) → Rises (near_square q)
near-rises q low high low' high' r f = squares-rise (nearest q low high) (nearest q low' high') (omega (arith, r, f))

pub far-falls : (q : ℕ) → Falls (far_square q)
far-falls q low high low' high' r f = squares-rise (farthest q low' high') (farthest q low high) (omega (arith, r, f))

-- from nought each number is as far away as it is great
pub from-nought : (t : ℕ) → near_square 0 t t ≡ squared t
from-nought t = (let same : nearest 0 t t ≡ t = omega arith in ap squared same)

-- of one number there is one distance
pub one-distance : (q t : ℕ) → far_square q t t ≡ near_square q t t
one-distance q t = (let same : farthest q t t ≡ nearest q t t = omega arith in ap squared same)

-- the square of a distance
distance-square : (q t : ℕ) → squared (nearest q t t) + 2 * (q * t) ≡ squared t + squared q
distance-square q t = elim (cases_lt q t) [
  | inl l ↦
      (let whole : t ≡ q + (t - q) = omega (arith, l) in
      let away : nearest q t t ≡ t - q = omega (arith, l) in
      ap (λ n. squared n + 2 * (q * t)) away ∙ ap (λ n. squared (t - q) + 2 * (q * n)) whole ∙ above q (t - q) ∙ ap (λ n. squared n + squared q) (sym whole))
  | inr m ↦
      (let whole : q ≡ t + (q - t) = omega (arith, m) in
      let away : nearest q t t ≡ q - t = omega (arith, m) in
      ap (λ n. squared n + 2 * (q * t)) away ∙ ap (λ n. squared (q - t) + 2 * (n * t)) whole ∙ below t (q - t) ∙ ap (λ n. squared t + squared n) (sym whole))
]
  where
    above : (q d : ℕ) → squared d + 2 * (q * (q + d)) ≡ squared (q + d) + squared q
    above q d = grind arith

    below : (t d : ℕ) → squared d + 2 * ((t + d) * t) ≡ squared t + squared (t + d)
    below t d = grind arith

pub distances : (q : ℕ) (s : List ℕ) → sum_by (λ t. near_square q t t) s + 2 * (q * sum s) ≡ sum_by squared s + length s * squared q
distances q [] = omega arith
distances q (s ∷ ss) =
    let all : sum (s ∷ ss) ≡ s + sum ss = sum_by-cons (λ v. v) s ss in
    let parts : 2 * (q * sum (s ∷ ss)) ≡ 2 * (q * s) + 2 * (q * sum ss) = ap (λ n. 2 * (q * n)) all ∙ split q s (sum ss) in
    let more : suc (length ss) * squared q ≡ squared q + length ss * squared q = omega arith in
    omega (arith, sum_by-cons (λ t. near_square q t t) s ss, sum_by-cons squared s ss, parts, more, distance-square q s, distances q ss)
  where
    split : (q a b : ℕ) → 2 * (q * (a + b)) ≡ 2 * (q * a) + 2 * (q * b)
    split q a b = grind arith

-- numbers that add up to a total
pub near-end : (k q total : ℕ) (s : List ℕ) → k * squared q ≤ 2 * (q * total) → length s ≡ k → sum s ≡ total → correction k q total + sum_by (λ t. near_square q t t) s ≡ sum_by squared s
near-end k q total s h l e =
    let long : length s * squared q ≡ k * squared q = ap (λ n. n * squared q) l in
    let all : 2 * (q * sum s) ≡ 2 * (q * total) = ap (λ n. 2 * (q * n)) e in
    omega (arith, distances q s, long, all, h)

pub far-end : (k q total : ℕ) (s : List ℕ) → k * squared q ≤ 2 * (q * total) → length s ≡ k → sum s ≡ total → correction k q total + sum_by (λ t. far_square q t t) s ≡ sum_by squared s
far-end k q total s h l e = ap (λ n. correction k q total + n) (sum_by-same (λ t. far_square q t t) (λ t. near_square q t t) (one-distance q) s) ∙ near-end k q total s h l e

-- no more than the total is at the mean
pub mean-within : (k total : ℕ) → k * squared (total / k) ≤ 2 * (total / k * total)
mean-within k total =
    let q : ℕ = total / k in
    let less : q * k ≤ total = div-mul-le_self total k in
    let same : q ≤ q = omega arith in
    let times : q * (q * k) ≤ q * total = mul-le-mul same less in
    let order : k * squared q ≡ q * (q * k) = turned k q in
    omega (arith, times, order)
  where
    turned : (k q : ℕ) → k * (q * q) ≡ q * (q * k)
    turned k q = grind arith
