-- Words for the bodies of tests of ordered groups.
use Rattle.std.specs.Prelude.{◌≡◌, ℕ, ◌+◌, ◌*◌, ◌<◌, ◌≤◌, pos, List, [], ◌∷◌, length, take, drop}
use Rattle.std.specs.List.{sum, All, Contains}
use Rattle.weights.specs.declared.TheConstants.{MAX}
use Rattle.networks.specs.declared.verdicts.Judge.{Judge}
use Rattle.weights.specs.Grouped.{minus}
use Rattle.weights.specs.Labellings.{counts_of, labellings, number_of_labellings}
use Rattle.networks.specs.Judged.{JudgeFits}
use Rattle.record_reader.specs.declared.TheConstants.{MOST_ROWS}
use Rattle.sample_reader.specs.Groups.{group_sizes}
use Rattle.sample_reader.specs.PooledSample.{labels_of, pooled}
use Rattle.pooled_columns.specs.PooledColumns.{column_sizes, pooled_values}
use Rattle.ordered_samples.specs.PairCounts.{column_points}
use Rattle.ordered_samples.specs.Umbrella.{PeakedGroups, subject_pairs, used_pairs}
use Rattle.ordered_samples.specs.declared.used_pairs.UsedPair.{UsedPair}
use Rattle.ordered_samples.specs.declared.counted_samples.CountedSamples.{CountedSamples}

-- a pair of two of k groups
abbrev pub IsPair : ℕ → UsedPair → Type 0
IsPair k q = (q.lesser < k) × (q.greater < k)

-- few pairs, each of two of k groups
pub record ArePairs (k : ℕ) (pairs : List UsedPair) : Type 0 where
  pub each : All (IsPair k) pairs
  pub few : length pairs ≤ 64

-- columns that have all of the labels
pub record AreColumns (columns labels : List ℕ) : Type 0 where
  pub whole : length labels ≡ sum columns

-- the points of labels, column by column, where so many of each group are left
abbrev pub points_from : List UsedPair → List ℕ → List ℕ → List ℕ → List ℕ → ℕ
points_from pairs rows r [] xs = 0
points_from pairs rows r (c ∷ columns) xs =
    let x = counts_of (length rows) (take c xs) in
    column_points pairs rows r x + points_from pairs rows (minus r x) columns (drop c xs)

-- groups and columns that are counted, and rules of which no number passes a limit
pub record IsCounting (pairs : List UsedPair) (rows columns : List ℕ) (judge : Judge)
    : Type 0 where
  pub pairs_are : ArePairs (length rows) pairs
  pub level : sum columns ≡ sum rows
  pub few : sum rows ≤ MOST_ROWS
  pub few_rows : length rows ≤ 8
  pub rules_fit : (n : ℕ) → n ≤ 2 * subject_pairs pairs rows → JudgeFits judge (pos n)

-- what is made of ordered groups
pub record AreCounted (samples : PeakedGroups) (made : CountedSamples) : Type 0 where
  pub sizes : made.sizes ≡ group_sizes samples.groups
  pub pairs : made.pairs.items ≡ used_pairs samples.peak (length (group_sizes samples.groups))
  pub columns : made.columns ≡ column_sizes (pooled_values samples.groups)
  pub observed : Contains (labellings (group_sizes samples.groups))
      (labels_of (pooled samples.groups))
  pub some : 2 ≤ length (group_sizes samples.groups)
  pub few_rows : length (group_sizes samples.groups) ≤ 8
  pub whole : sum (group_sizes samples.groups) ≡ length (pooled_values samples.groups)
  pub few : length (pooled_values samples.groups) ≤ MOST_ROWS
  pub total_fits : number_of_labellings (group_sizes samples.groups) ≤ MAX
