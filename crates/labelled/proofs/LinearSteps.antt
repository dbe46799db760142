-- The linear statistic, one subject after another.
use Rattle.std.proofs.Common.{◌≡◌, ℕ, ◌+◌, ◌*◌, ◌<◌, ◌≤◌, ◌∙◌, List, length, drop, get_or, refl, ap, arith, add-one, drop-cons}
use Rattle.std.specs.Prelude.{ℤ, pos, ◌+ℤ◌, ◌*ℤ◌, unsigned_abs}
use Rattle.std.proofs.Math.Nat.{mul-le-mul_right, mul-add}
use Rattle.std.proofs.lemmas.Int.{ints, unsigned_abs-mul}
use Rattle.weights.specs.Numbers.{absolute_sum}
use Rattle.completion_bounds.specs.Pairings.{greatest_score}
use Rattle.later_scores.proofs.Absolute.{size-plus}
use Rattle.label_network.specs.Linear.{linear_statistic, score_of}
use Rattle.label_network.proofs.LinearSizes.{score-within}

-- what the subjects before place i sum to
pub record IsSummed (us scores : List ℤ) (labels : List ℕ) (i : ℕ) (sum : ℤ) : Type 0 where
  pub summing : sum +ℤ linear_statistic us (drop i scores) (drop i labels) ≡ linear_statistic us scores labels
  pub small : unsigned_abs sum + greatest_score us * absolute_sum (drop i scores) ≤ greatest_score us * absolute_sum scores

joined : (s t p r all : ℤ) → s +ℤ t ≡ all → t ≡ p +ℤ r → (s +ℤ p) +ℤ r ≡ all
joined s t p r all a b = omega (arith, ints, a, b)

module _ (us scores : List ℤ) (labels : List ℕ) where
  module _ (i : ℕ) (here : i < length scores) (there : i < length labels) (s : ℤ) (a : IsSummed us scores labels i s) where
    abbrev u : ℤ
    u = score_of us (get_or labels i 0)

    abbrev v : ℤ
    v = get_or scores i (pos 0)

    step : linear_statistic us (drop i scores) (drop i labels) ≡ (u *ℤ v) +ℤ linear_statistic us (drop (i + 1) scores) (drop (i + 1) labels)
    step = rw (add-one, drop-cons scores i (pos 0) here, drop-cons labels i 0 there) refl

    sizes : greatest_score us * absolute_sum (drop i scores) ≡ greatest_score us * unsigned_abs v + greatest_score us * absolute_sum (drop (i + 1) scores)
    sizes = ap (λ n. greatest_score us * n) (rw (add-one, drop-cons scores i (pos 0) here) refl) ∙ mul-add (greatest_score us) (unsigned_abs v) (absolute_sum (drop (i + 1) scores))

    product : unsigned_abs u * unsigned_abs v ≤ greatest_score us * unsigned_abs v
    product = mul-le-mul_right (unsigned_abs v) (score-within us (get_or labels i 0))

    pub summed-room : unsigned_abs s + unsigned_abs u * unsigned_abs v ≤ greatest_score us * absolute_sum scores
    summed-room = omega (arith, a.small, sizes, product)

    pub summed-next : IsSummed us scores labels (i + 1) (s +ℤ (u *ℤ v))
    summed-next = record {
      summing = joined s _ (u *ℤ v) _ _ a.summing step;
      small = omega (arith, a.small, sizes, product, unsigned_abs-mul u v, size-plus s (u *ℤ v));
    }
