-- Tests of one sample by the signs of its differences: the signed rank test (Wilcoxon, Biometrics
-- Bulletin 1, 1945; Hollander and Wolfe, Nonparametric Statistical Methods, chapter 3), the sign
-- test (the same chapter), the randomization test of differences (Fisher, The Design of
-- Experiments, 1935) and the test of the discordant pairs of a table (McNemar, Psychometrika 12,
-- 1947). All are conditional on the absolute differences, and leave out those that are zero.
use Rattle.std.specs.Prelude.{ℕ, ℤ, pos, ◌-ℤ◌, ◌*◌, nat_abs, List, ◌++◌, length, map, replicate, not, int_lt, slice_index, if◌then◌else◌}
use Rattle.std.specs.List.{filter}
use Rattle.std.specs.Ordering.{int_eq}
use Rattle.weights.specs.Conditional.{ConditionalTest, by_distance, every_tail, unit_weight}
use Rattle.weights.specs.Labellings.{sign_lists}
use Rattle.scores.specs.Scores.{labelled_sum, scale_of, score_list}
use Rattle.weights.specs.Numbers.{absolute_sum}
use Rattle.scores.specs.declared.kinds.ScoreKind.TheVariants as score
use Rattle.table_reader.specs.TableLayout.{TableData}
use Rattle.one_sample_tests.specs.declared.kinds.SignKind.{SignKind}
use Rattle.one_sample_tests.specs.declared.kinds.SignKind.TheVariants.{SignedRank, Sign, RawSigned}

-- all ways to mark the subjects by plus and minus, and the sum of the scores of the plus marks,
-- which are 1; its mean is half the sum of all scores
abbrev pub marks_test : List ℤ → List ℕ → ℕ → ConditionalTest
marks_test scores observed scale = record {
  reference = sign_lists (length scores);
  statistic = labelled_sum 1 scores;
  observed = observed;
  weight = unit_weight;
  has_tail = every_tail;
  two_sided = by_distance 2 (pos (absolute_sum scores));
  scale = scale;
  bound = 2 * absolute_sum scores;
}

-- the differences of a sample, and how they are scored
pub record SignedSample : Type 0 where
  pub kind : SignKind
  pub differences : List ℤ

abbrev pub sample_of : SignKind → List ℤ → SignedSample
sample_of kind differences = record { kind = kind; differences = differences }

-- those that are used: the ones that are not zero, in their order
abbrev pub nonzero : List ℤ → List ℤ
nonzero differences = filter (λ d. not (int_eq d (pos 0))) differences

abbrev pub magnitudes : List ℤ → List ℤ
magnitudes differences = map (λ d. pos (nat_abs d)) differences

-- the observed marks: 1 where a difference is positive, and 0 where it is negative
abbrev pub signs_of : List ℤ → List ℕ
signs_of differences = map (λ d. if int_lt (pos 0) d then 1 else 0) differences

-- the scores of absolute differences, and what they are divided by
abbrev pub sign_scores : SignKind → List ℤ → List ℤ
sign_scores SignedRank sizes = score_list score.Wilcoxon sizes
sign_scores Sign sizes = map (λ size. pos 1) sizes
sign_scores RawSigned sizes = score_list score.Raw sizes

abbrev pub sign_scale : SignKind → List ℤ → ℕ
sign_scale SignedRank sizes = scale_of score.Wilcoxon sizes
sign_scale Sign sizes = 1
sign_scale RawSigned sizes = scale_of score.Raw sizes

abbrev pub used_sizes : SignedSample → List ℤ
used_sizes sample = magnitudes (nonzero sample.differences)

abbrev pub used_scores : SignedSample → List ℤ
used_scores sample = sign_scores sample.kind (used_sizes sample)

-- the test of a sample by the scores of a kind
abbrev pub one_sample_test : SignedSample → ConditionalTest
one_sample_test sample = marks_test (used_scores sample)
    (signs_of (nonzero sample.differences)) (sign_scale sample.kind (used_sizes sample))

-- McNemar's test is the sign test of the discordant pairs: each of the second cell of a table of
-- two rows and two columns is a difference of 1, and each of the third one of -1
abbrev pub discordant : TableData → SignedSample
discordant table = sample_of Sign (replicate (slice_index table.cells 1) (pos 1)
    ++ replicate (slice_index table.cells 2) (pos 0 -ℤ pos 1))
