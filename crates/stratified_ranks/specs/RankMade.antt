-- What is kept of samples in strata that are prepared for the rank sum test.
use Rattle.std.specs.Prelude.{◌≡◌, ◌+◌, ◌≤◌, pos, ℕ, ℤ, List, map}
use Rattle.std.specs.List.{concat, sum, sum_by}
use Rattle.weights.specs.Conditional.{total}
use Rattle.weights.specs.Numbers.{absolute_sum}
use Rattle.weights.specs.declared.TheConstants.{MAX}
use Rattle.sample_reader.specs.PooledSample.{labels_of}
use Rattle.sample_reader.specs.declared.subjects.Subject.{Subject}
use Rattle.sample_reader.specs.StrataGroups.{StrataGroupData}
use Rattle.networks.specs.Judged.{judge_of}
use Rattle.labelled.specs.UnweightedTests.{CanBeAnswered}
use Rattle.stratified_ranks.specs.RankNetworks.{AreUsable, ranked_strata_network}
use Rattle.stratified_ranks.specs.RankRooms.{rank_columns}
use Rattle.stratified_ranks.specs.RankSteps.{AreFitColumns, AreRankSums}
use Rattle.stratified_ranks.specs.StrataSteps.{ArePartsSound, part_centre, part_of}
use Rattle.stratified_ranks.specs.StrataSteps.{part_sizes, parts_total}
use Rattle.stratified_ranks.specs.StratifiedRanks.{ranks_in, strata_subjects}
use Rattle.stratified_ranks.specs.StratifiedRanks.{stratified_rank_test, two_sizes}
use Rattle.stratified_ranks.specs.declared.rank_made.RankedStrata.{RankedStrata}
use Rattle.stratified_ranks.specs.declared.rank_strata.Part.{Part}
use Rattle.stratified_ranks.specs.declared.rank_strata.RankStrata.{RankStrata}

-- the samples of these lists
abbrev pub samples_of : List (List ℕ) → List (List ℕ) → List ℕ → List ℕ → List ℤ → StrataGroupData
samples_of strata labels places members values = record {
  strata = strata;
  labels = labels;
  places = places;
  members = members;
  values = values;
}

-- what is made of strata
pub record AreLists (strata : List (List Subject)) (made : RankStrata) : Type 0 where
  pub parts : made.parts ≡ map part_of strata
  pub columns : made.columns ≡ rank_columns strata
  pub ranks : made.ranks ≡ map pos (concat (map ranks_in strata))
  pub labels : made.labels ≡ concat (map labels_of strata)

-- what is kept of samples in strata whose labellings pass no limit: their lists, of which parts and
-- columns are sound, that no sum of their ranks passes a limit, and that the test can be answered
pub record AreRanked (samples : StrataGroupData) (made : RankedStrata) : Type 0 where
  pub usable : AreUsable samples
  pub lists : AreLists (strata_subjects samples) made.strata
  pub sound : ArePartsSound made.strata.parts
  pub parts : map part_sizes made.strata.parts ≡ map two_sizes (strata_subjects samples)
  pub sizes : map sum (map two_sizes (strata_subjects samples)) ≡ made.sizes
  pub ranks_fit : absolute_sum made.strata.ranks ≤ MAX
  pub fit : AreFitColumns made.strata.columns
  pub sums_fit : AreRankSums made.strata.columns (judge_of (stratified_rank_test samples))
  pub answered : let network = ranked_strata_network (strata_subjects samples) in
      CanBeAnswered (stratified_rank_test samples) network network

-- what is known of samples that were read: their strata can be counted
pub record StrataFacts (samples : StrataGroupData) : Type 0 where
  pub sound : ArePartsSound (map part_of (strata_subjects samples))
  pub total_is : total (stratified_rank_test samples)
      ≡ parts_total (map part_of (strata_subjects samples))

-- and where their labellings pass no limit: no sum of ranks does
pub record RanksFit (samples : StrataGroupData) (parts : List Part) : Type 0 where
  pub twice : let ranks = map pos (concat (map ranks_in (strata_subjects samples))) in
      absolute_sum ranks + absolute_sum ranks ≤ MAX
  pub centre : sum_by part_centre parts
      ≤ absolute_sum (map pos (concat (map ranks_in (strata_subjects samples))))
  pub centre_fits : sum_by part_centre parts ≤ MAX
