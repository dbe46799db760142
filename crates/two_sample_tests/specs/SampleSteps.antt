-- What is kept of a prepared test.
use Rattle.std.specs.Prelude.{◌≡◌, ◌≤◌, [], ◌∷◌, length, slice_index}
use Rattle.record_reader.specs.declared.TheConstants.{MOST_ROWS}
use Rattle.sample_reader.specs.Groups.{group_sizes}
use Rattle.labelled.specs.LinearTests.{AreFittingLabels}
use Rattle.labelled.specs.declared.linear.ScoredLabels.{ScoredLabels}
use Rattle.two_sample_tests.specs.Columns.{scored_samples}
use Rattle.two_sample_tests.specs.TwoSamples.{TwoSamples, pooled_scores}

-- two samples, and a total and a bound that pass no limit
pub record AreFitting (samples : TwoSamples) : Type 0 where
  pub sizes_are : group_sizes samples.groups
      ≡ slice_index (group_sizes samples.groups) 0 ∷ slice_index (group_sizes samples.groups) 1 ∷ []
  pub few : length (pooled_scores samples) ≤ MOST_ROWS
  pub labels : AreFittingLabels (scored_samples samples)

-- what is made of two samples
pub record AreScored (samples : TwoSamples) (made : ScoredLabels) : Type 0 where
  pub is : made ≡ scored_samples samples
  pub fitting : AreFitting samples
