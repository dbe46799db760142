-- The test of two samples is that of a linear statistic, by which a subject of the second sample counts once.
use Rattle.std.proofs.Common.{◌≡◌, ℕ, zero, suc, ◌*◌, cond, List, [], ◌∷◌, length, refl, ◌∙◌, ap, arith, nat_eq, ne_eqb}
use Rattle.std.specs.Prelude.{ℤ, pos, ◌+ℤ◌, ◌*ℤ◌, slice_index}
use Rattle.std.proofs.Math.IntN.{zero-*ℤ}
use Rattle.std.proofs.lemmas.Int.{ints}
use Rattle.weights.specs.Numbers.{absolute_sum}
use Rattle.later_scores.specs.LaterSums.{total_score}
use Rattle.label_network.specs.Linear.{linear_statistic, row_sum, score_of}
use Rattle.labelled.specs.LinearTests.{linear_says}
use Rattle.scores.specs.Scores.{labelled_sum}
use Rattle.sample_reader.specs.Groups.{group_sizes}
use Rattle.two_sample_tests.specs.Columns.{row_scores, scored_samples}
use Rattle.two_sample_tests.specs.TwoSamples.{TwoSamples, pooled_scores, two_sample_says}

once : (x : ℕ) (s : ℤ) → score_of row_scores x *ℤ s ≡ cond (nat_eq x 1) s (pos 0)
once zero s = zero-*ℤ s
once (suc zero) s = omega (arith, ints)
once (suc (suc zero)) s = zero-*ℤ s
once (suc (suc (suc x))) s = rw (ne_eqb (suc (suc (suc x))) 1 (λ e. omega (arith, e))) (zero-*ℤ s)

same-sum : (scores : List ℤ) (xs : List ℕ) → linear_statistic row_scores scores xs ≡ labelled_sum 1 scores xs
same-sum [] xs = refl
same-sum (s ∷ scores) [] = refl
same-sum (s ∷ scores) (x ∷ xs) = ap (λ t. t +ℤ linear_statistic row_scores scores xs) (once x s) ∙ ap (λ t. cond (nat_eq x 1) s (pos 0) +ℤ t) (same-sum scores xs)

pub same-says : (samples : TwoSamples) → length (group_sizes samples.groups) ≡ 2 → linear_says (scored_samples samples) ≡ two_sample_says samples
same-says samples two = λ i. record {
  sizes = group_sizes samples.groups;
  statistic = λ xs. same-sum (pooled_scores samples) xs i;
  observed = (two_sample_says samples).observed;
  tails = (two_sample_says samples).tails;
  factor = length (pooled_scores samples);
  centre = ap (λ m. m *ℤ total_score (pooled_scores samples)) (second (group_sizes samples.groups) two) i;
  scale = (two_sample_says samples).scale;
  bound = once-bound (length (pooled_scores samples)) (absolute_sum (pooled_scores samples)) i;
}
  where
    second : (sizes : List ℕ) → length sizes ≡ 2 → row_sum row_scores sizes ≡ pos (slice_index sizes 1)
    second [] e = absurd (omega (arith, e))
    second (a ∷ []) e = absurd (omega (arith, e))
    second (a ∷ b ∷ []) e = omega (arith, ints)
    second (a ∷ b ∷ c ∷ sizes) e = absurd (omega (arith, e))

    once-bound : (n a : ℕ) → 2 * n * (1 * a) ≡ 2 * n * a
    once-bound n a = omega arith
