-- Two strata worked by hand: x 1, y 2 in the first, and x 3, y 5, x 4 in the second.
use Rattle.std.specs.Prelude.{◌≡◌, pos, [], ◌∷◌}
use Rattle.std.proofs.Common.{refl}
use Rattle.weights.specs.Conditional.{numerator, observed_statistic, total}
use Rattle.weights.specs.declared.tails.Tail.TheVariants.{Greater, Less, Two}
use Rattle.midranks.specs.Midranks.{doubled_midrank, midranks_among, number_below, number_equal}
use Rattle.sample_reader.specs.PooledSample.{paired_subjects}
use Rattle.sample_reader.specs.StrataGroups.{StrataGroupData}
use Rattle.stratified_ranks.specs.StratifiedRanks.{stratified_rank_test}

samples : StrataGroupData
samples = record {
  strata = (1 ∷ []) ∷ (2 ∷ []) ∷ [];
  labels = (3 ∷ []) ∷ (4 ∷ []) ∷ [];
  places = 0 ∷ 0 ∷ 1 ∷ 1 ∷ 1 ∷ [];
  members = 0 ∷ 1 ∷ 0 ∷ 1 ∷ 0 ∷ [];
  values = pos 1 ∷ pos 2 ∷ pos 3 ∷ pos 5 ∷ pos 4 ∷ [];
}

statistic_is : observed_statistic (stratified_rank_test samples) ≡ pos 10
unfolding samples paired_subjects midranks_among doubled_midrank number_below number_equal
statistic_is = refl

total_is : total (stratified_rank_test samples) ≡ 6
unfolding samples paired_subjects midranks_among doubled_midrank number_below number_equal
total_is = refl

less_is : numerator (stratified_rank_test samples) Less ≡ 6
unfolding samples paired_subjects midranks_among doubled_midrank number_below number_equal
less_is = refl

greater_is : numerator (stratified_rank_test samples) Greater ≡ 1
unfolding samples paired_subjects midranks_among doubled_midrank number_below number_equal
greater_is = refl

two_is : numerator (stratified_rank_test samples) Two ≡ 2
unfolding samples paired_subjects midranks_among doubled_midrank number_below number_equal
two_is = refl
