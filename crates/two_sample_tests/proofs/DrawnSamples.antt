-- The sum of the second sample's scores, by draws of that sample.
use Rattle.std.proofs.Common.{◌≡◌, ℕ, ◌-◌, ◌*◌, ◌≤◌, [], ◌∷◌, length, refl, ◌∙◌, ap, arith}
use Rattle.std.specs.Prelude.{slice_index}
use Rattle.std.specs.List.{count_by}
use Rattle.std.proofs.Math.Nat.{mul-le-mul_left}
use Rattle.weights.specs.declared.tails.Tail.{Tail}
use Rattle.weights.specs.Conditional.{numerator}
use Rattle.weights.specs.Labellings.{labellings, number_of_labellings}
use Rattle.weights.specs.Numbers.{absolute_sum}
use Rattle.weights.specs.declared.TheConstants.{MAX}
use Rattle.weights.specs.Rules.{passes}
use Rattle.scores.specs.Scores.{labelled_sum}
use Rattle.sample_reader.specs.Groups.{group_sizes}
use Rattle.networks.specs.Judged.{judge_of, rule_in}
use Rattle.networks.proofs.Following.{numerator-counted}
use Rattle.score_convolution.specs.DrawnSums.{passing_draws}
use Rattle.two_sample_tests.specs.SampleSteps.{AreFitting}
use Rattle.two_sample_tests.specs.TwoSamples.{TwoSamples, pooled_scores, two_sample_test}
use Rattle.two_sample_tests.proofs.FittingTests.{whole}

module _ (samples : TwoSamples) (f : AreFitting samples) where
  abbrev first : ℕ
  first = slice_index (group_sizes samples.groups) 0

  abbrev second : ℕ
  second = slice_index (group_sizes samples.groups) 1

  pub numerator-drawn : (tail : Tail) → numerator (two_sample_test samples) tail ≡ passing_draws (rule_in (judge_of (two_sample_test samples)) tail) second (pooled_scores samples)
  numerator-drawn tail =
      let others : first ≡ length (pooled_scores samples) - second = omega (arith, whole samples f) in
      numerator-counted (two_sample_test samples) refl refl tail
      ∙ ap (λ sizes. count_by (λ xs. passes (rule_in (judge_of (two_sample_test samples)) tail) (labelled_sum 1 (pooled_scores samples) xs)) (labellings sizes)) (f.sizes_are ∙ ap (λ n. n ∷ second ∷ []) others)

  -- there are as many labellings as the test has
  pub draws-fit : number_of_labellings ((length (pooled_scores samples) - second) ∷ second ∷ []) ≤ MAX
  draws-fit =
      let others : first ≡ length (pooled_scores samples) - second = omega (arith, whole samples f) in
      rw (← others) (rw f.sizes_are at f.labels.total_fits)

  -- and the sums pass no limit, by the bound of the test
  pub sums-fit : 2 * length (pooled_scores samples) * absolute_sum (pooled_scores samples) ≤ MAX
  sums-fit = within (2 * length (pooled_scores samples)) _ (absolute_sum (pooled_scores samples)) f.labels.are.label_some f.labels.bound_fits
    where
      within : (n g s : ℕ) → 1 ≤ g → n * (g * s) ≤ MAX → n * s ≤ MAX
      within n g s h fits =
          let more : s ≤ g * s = grind (arith, h) in
          let all : n * s ≤ n * (g * s) = mul-le-mul_left n more in
          omega (arith, fits, all)
