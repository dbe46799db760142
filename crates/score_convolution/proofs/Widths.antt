-- In how many bits the draws of some of the subjects are counted.
use Rattle.std.proofs.Common.{◌≡◌, ℕ, zero, suc, ◌+◌, ◌-◌, ◌*◌, ◌/◌, ◌^◌, ◌≤◌, List, length, ◌⊎◌, inl, inr, sym, ◌∙◌, ap, subst, arith, lit≤}
use Rattle.std.specs.Prelude.{ℤ}
use Rattle.std.proofs.Math.Nat.{mul-div_cancel_left}
use Rattle.std.proofs.Math.Pow.{pow_mono}
use Rattle.std.proofs.lemmas.Bool.{cases_lt}
use Rattle.weights.specs.Numbers.{binomial}
use Rattle.weights.specs.declared.TheConstants.{MAX}
use Rattle.weights.proofs.Binomials.{binomial-left_out, binomial-next, binomial-over, binomial-zero}
use Rattle.score_convolution.specs.DrawRows.{AreCounted}
use Rattle.score_convolution.proofs.Counted.{binomial-longer, binomial-rises}

-- half of 66, one more of them at a time
abbrev half_chosen : ℕ → ℕ
half_chosen zero = 1
half_chosen (suc i) = half_chosen i * (33 + suc i) / suc i

half-is : (i : ℕ) → binomial (33 + i) i ≡ half_chosen i
half-is zero = binomial-zero (33 + 0)
half-is (suc i) =
    let on : (33 + i) + 1 ≡ 33 + suc i = omega arith in
    let one : i + 1 ≡ suc i = omega arith in
    let next : binomial (33 + i) i * (33 + suc i) ≡ suc i * binomial (33 + suc i) (suc i) = rw (on, one) at (binomial-next (33 + i) i) in
    sym (mul-div_cancel_left (binomial (33 + suc i) (suc i)) (omega arith))
    ∙ ap (λ n. n / suc i) (sym next)
    ∙ ap (λ n. n * (33 + suc i) / suc i) (half-is i)

half-narrow : binomial 66 33 ≤ 18446744073709551615
half-narrow = subst (λ n. n ≤ 18446744073709551615) (sym (half-is 33)) (lit≤ tt)

of-66 : (n : ℕ) → binomial 66 n ≤ 18446744073709551615
of-66 n = elim (cases_lt n 34) [
  | inl h ↦ omega (arith, half-narrow, binomial-rises 66 33 n (omega arith) (omega (arith, h)))
  | inr h ↦ elim (cases_lt n 67) [
    | inl l ↦ (let left = binomial-left_out 66 n (omega (arith, l)) in omega (arith, left, half-narrow, binomial-rises 66 33 (66 - n) (omega arith) (omega (arith, h))))
    | inr l ↦ omega (arith, binomial-over 66 n (omega (arith, l)))
  ]
]

-- of 66 subjects or fewer
pub counted-narrow : (scores : List ℤ) (drawn : ℕ) → length scores ≤ 66 → AreCounted 18446744073709551615 drawn scores
counted-narrow scores drawn few = record {
  within = λ n h. narrow n;
  fits = λ n h. omega (arith, narrow n, max-wide);
}
  where
    narrow : (n : ℕ) → binomial (length scores) n ≤ 18446744073709551615
    narrow n = omega (arith, binomial-longer (length scores) 66 n few, of-66 n)

    max-wide : 18446744073709551615 ≤ MAX
    max-wide = lit≤ tt

-- of a part of subjects, of whom no more than half are drawn
pub counted-wide : (scores : List ℤ) (all drawn : ℕ) → length scores ≤ all → 2 * drawn ≤ all → binomial all drawn ≤ MAX → AreCounted MAX drawn scores
counted-wide scores all drawn within half fits = record {
  within = λ n h. wide n h;
  fits = λ n h. wide n h;
}
  where
    wide : (n : ℕ) → n ≤ drawn → binomial (length scores) n ≤ MAX
    wide n h = omega (arith, binomial-longer (length scores) all n within, binomial-rises all drawn n half h, fits)

-- ---- of any number of subjects

pub few-signs : (n : ℕ) → 2 ^ n ≤ MAX → n ≤ 126
few-signs n h = elim (cases_lt n 127) [ inl l ↦ omega (arith, l) | inr l ↦ absurd (too-many (pow_mono {i = 127} {j = n} (omega (arith, l)))) ]
  where
    top : MAX + 1 ≤ 2 ^ 127
    top = lit≤ tt

    too-many : 2 ^ 127 ≤ 2 ^ n → ⊥
    too-many l = omega (arith, l, h, top)

-- of one half and of the other
pub halves-narrow : (part n : ℕ) → 2 ^ n ≤ MAX → (part ≡ n / 2) ⊎ (part ≡ n - n / 2) → 2 ^ part ≤ 18446744073709551615
halves-narrow part n h is = omega (arith, most, wide)
  where
    half : (part ≡ n / 2) ⊎ (part ≡ n - n / 2) → part ≤ 63
    half (inl e) = omega (arith, e, few-signs n h)
    half (inr e) = omega (arith, e, few-signs n h)

    most : 2 ^ part ≤ 2 ^ 63
    most = pow_mono {i = part} {j = 63} (half is)

    wide : 2 ^ 63 ≤ 18446744073709551615
    wide = lit≤ tt

pub halves-fit : (part n : ℕ) → 2 ^ n ≤ MAX → part ≤ n → 2 ^ part ≤ MAX
halves-fit part n h l =
    let most : 2 ^ part ≤ 2 ^ n = pow_mono {i = part} {j = n} l in
    omega (arith, most, h)
