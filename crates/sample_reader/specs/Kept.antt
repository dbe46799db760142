-- What is always true of samples while they are read, and when all of a file is read.
use Rattle.std.specs.Prelude.{◌≡◌, ◌⊎◌, ℕ, ◌*◌, ◌<◌, ◌≤◌, ◌^◌, ℤ, List, [], length, map, All, bytes_eq, nat_abs, slice_index_or}
use Rattle.sample_reader.specs.CellLayouts.{PairValues}
use Rattle.sample_reader.specs.GroupLayout.{Subjects, different}
use Rattle.sample_reader.specs.Numbered.{IsNumbered}
use Rattle.sample_reader.specs.StrataGroups.{StrataSubjects}
use Rattle.sample_reader.specs.declared.TheConstants.{MOST_TWINS}
use Rattle.record_reader.specs.declared.TheConstants.{MOST_ROWS}

-- each value is in the range of values
abbrev pub AreInRange : List ℤ → Type 0
AreInRange values = All (λ value. nat_abs value < 10 ^ 36) values

-- each number is in the range of differences of values
abbrev pub AreDifferences : List ℤ → Type 0
AreDifferences differences = All (λ difference. nat_abs difference < 2 * 10 ^ 36) differences

-- Values that make pairs: all rows have one value, or all have two.
pub record AreWholePairs (pairs : PairValues) : Type 0 where
  pub not_empty : 1 ≤ length pairs.first
  pub few_enough : length pairs.first ≤ MOST_ROWS
  pub one_or_two : (length pairs.second ≡ 0) ⊎ (length pairs.first ≡ length pairs.second)

-- Values that make a bivariate sample: all rows have two.
pub record AreWholeTwins (pairs : PairValues) : Type 0 where
  pub not_empty : 1 ≤ length pairs.first
  pub few_enough : length pairs.first ≤ MOST_TWINS
  pub two_each : length pairs.second ≡ length pairs.first

-- Cells that make so many blocks of so many treatments.
pub record AreWholeBlocks (blocks treatments : ℕ) (cells : List ℤ) : Type 0 where
  pub not_empty : 1 ≤ blocks
  pub few_enough : blocks ≤ MOST_ROWS
  pub at_least_two : 2 ≤ treatments
  pub at_most_eight : treatments ≤ 8
  pub one_each : length cells ≡ blocks * treatments

-- the labels of these numbers
abbrev pub labels_at : List (List ℕ) → List ℕ → List (List ℕ)
labels_at labels members = map (λ member. slice_index_or labels member []) members

-- the subjects that have the labels of these numbers, and these values
abbrev pub subjects_of : List (List ℕ) → List ℕ → List ℤ → Subjects
subjects_of labels members values =
    record { labels = labels_at labels members; values = values }

-- Labels, numbers of labels and values that subjects have so far.
pub record AreKept (labels : List (List ℕ)) (members : List ℕ) (values : List ℤ) : Type 0 where
  pub numbered : IsNumbered bytes_eq (labels_at labels members) labels members
  pub in_range : AreInRange values

-- Subjects that make groups.
pub record AreWhole (subjects : Subjects) : Type 0 where
  pub at_least_two : 2 ≤ length (different subjects.labels)
  pub at_most_eight : length (different subjects.labels) ≤ 8
  pub few_enough : length subjects.values ≤ MOST_ROWS
  pub one_label_each : length subjects.labels ≡ length subjects.values

-- Subjects whose labels make a sequence.
pub record IsWholeSequence (subjects : Subjects) : Type 0 where
  pub two : length (different subjects.labels) ≡ 2
  pub few_enough : length subjects.labels ≤ MOST_ROWS

-- Subjects that make two groups, each in a stratum.
pub record AreWholeInStrata (so_far : StrataSubjects) : Type 0 where
  pub whole : AreWhole so_far.subjects
  pub two : length (different so_far.subjects.labels) ≡ 2
  pub one_stratum_each : length so_far.strata ≡ length so_far.subjects.values
