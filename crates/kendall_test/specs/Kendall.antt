-- Kendall's K (Kendall, A new measure of rank correlation, Biometrika 30, 1938; with ties, Kendall
-- and Gibbons, Rank Correlation Methods, chapter 5): the pairs of subjects whose two values stand
-- in the same order, less the pairs whose values stand in the other. The test is conditional on
-- both columns of values, with their ties.
use Rattle.std.specs.Prelude.{ℕ, ℤ, pos, ◌*◌, ◌-ℤ◌, List, length, map, nat_lt, int_lt, if◌then◌else◌}
use Rattle.std.specs.List.{count_by, sum_by}
use Rattle.weights.specs.Conditional.{ConditionalTest, every_tail}
use Rattle.weights.specs.InOrder.{in_order}
use Rattle.labelled.specs.LabelTests.{LabelTest, label_test}
use Rattle.midranks.specs.Ties.{tie_groups}
use Rattle.midranks.specs.declared.ties.Tie.{Tie}
use Rattle.sample_reader.specs.Twins.{TwinData}
use Rattle.sample_reader.specs.PooledSample.{labels_of, may_precede, paired_subjects, values_of}
use Rattle.sample_reader.specs.declared.subjects.Subject.{Subject}
use Rattle.pooled_columns.specs.PooledColumns.{column_sizes}

-- what subjects and those with a greater first value add, by their second values
abbrev pub over_pairs : (ℕ → ℕ → ℕ) → List Subject → List Subject → ℕ
over_pairs f here there =
    sum_by (λ a. sum_by (λ b. if int_lt a.value b.value then f a.label b.label else 0) there) here

abbrev pub one_where_less : ℕ → ℕ → ℕ
one_where_less x y = if nat_lt x y then 1 else 0

abbrev pub one_where_greater : ℕ → ℕ → ℕ
one_where_greater x y = one_where_less y x

-- K of subjects, each with its first value, and labelled by its second: over the pairs with
-- distinct first values 1 where the second values stand in the same order, -1 where they stand in
-- the other, and 0 where they are equal
abbrev pub kendall_sum : List Subject → ℤ
kendall_sum subjects = pos (over_pairs one_where_less subjects subjects)
    -ℤ pos (over_pairs one_where_greater subjects subjects)

abbrev pub kendall_statistic : List ℤ → List ℕ → ℤ
kendall_statistic firsts seconds = kendall_sum (paired_subjects firsts seconds)

-- the place of a value among distinct ones: how many are less
abbrev pub place_among : List Tie → ℤ → ℕ
place_among ties v = count_by (λ t. int_lt t.value v) ties

abbrev pub places_of : List ℤ → List ℕ
places_of values = map (place_among (tie_groups values)) values

-- the subjects in ascending order of their first values, each labelled by the place of its second
-- value among the distinct ones
abbrev pub kendall_subjects : TwinData → List Subject
kendall_subjects sample =
    in_order may_precede (paired_subjects sample.first (places_of sample.second))

-- all ways to give the second values to the subjects, each distinct value as often as it occurs; K
-- is at most the square of the number of subjects
abbrev pub kendall_says : TwinData → LabelTest
kendall_says sample =
    let firsts = values_of (kendall_subjects sample) in record {
      sizes = column_sizes sample.second;
      statistic = kendall_statistic firsts;
      observed = labels_of (kendall_subjects sample);
      tails = every_tail;
      factor = 1;
      centre = pos 0;
      scale = 1;
      bound = length firsts * length firsts;
    }

-- the test of Kendall's K of two values of each subject
abbrev pub kendall_test : TwinData → ConditionalTest
kendall_test sample = label_test (kendall_says sample)
