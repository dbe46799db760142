-- A worked row of the definition, by computation.
use Rattle.std.specs.Prelude.{◌≡◌, pos, [], ◌∷◌, codes}
use Rattle.std.proofs.Common.{refl}
use Rattle.weights.specs.Conditional.{numerator, observed_statistic, total}
use Rattle.weights.specs.declared.tails.Tail.TheVariants.{Less, Greater, Two}
use Rattle.midranks.specs.Midranks.{doubled_midrank, number_below, number_equal}
use Rattle.midranks.specs.Ties.{tie_groups}
use Rattle.sample_reader.specs.PooledSample.{paired_subjects}
use Rattle.scores.specs.declared.kinds.ScoreKind.TheVariants.{Wilcoxon}
use Rattle.pooled_columns.specs.PooledColumns.{column_scores, column_sizes, pooled_values}
use Rattle.two_sample_tests.specs.TwoSamples.{TwoSamples, two_sample_test}

-- the values 1 2 2 in the first group and 2 3 3 in the second, in units of 1
abbrev tied : TwoSamples
tied = record {
  kind = Wilcoxon;
  groups = record {
    labels = codes "x" ∷ codes "y" ∷ [];
    members = 0 ∷ 1 ∷ 0 ∷ 1 ∷ 0 ∷ 1 ∷ [];
    values = pos 2 ∷ pos 3 ∷ pos 1 ∷ pos 2 ∷ pos 2 ∷ pos 3 ∷ [];
  };
}

tied_statistic : observed_statistic (two_sample_test tied) ≡ pos 28
unfolding paired_subjects doubled_midrank number_below number_equal
tied_statistic = refl

tied_bound : (two_sample_test tied).bound ≡ 504
unfolding paired_subjects doubled_midrank number_below number_equal
tied_bound = refl

tied_total : total (two_sample_test tied) ≡ 20
tied_total = refl

tied_less : numerator (two_sample_test tied) Less ≡ 20
unfolding paired_subjects doubled_midrank number_below number_equal
tied_less = refl

tied_greater : numerator (two_sample_test tied) Greater ≡ 3
unfolding paired_subjects doubled_midrank number_below number_equal
tied_greater = refl

tied_two : numerator (two_sample_test tied) Two ≡ 6
unfolding paired_subjects doubled_midrank number_below number_equal
tied_two = refl

-- of the three distinct values, how many subjects have each, and their scores
tied_sizes : column_sizes (pooled_values tied.groups) ≡ 1 ∷ 3 ∷ 2 ∷ []
unfolding paired_subjects tie_groups
tied_sizes = refl

tied_scores : column_scores tied.kind (pooled_values tied.groups) ≡ pos 2 ∷ pos 6 ∷ pos 11 ∷ []
unfolding paired_subjects tie_groups doubled_midrank number_below number_equal
tied_scores = refl
