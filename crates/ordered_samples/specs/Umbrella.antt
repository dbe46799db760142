-- Tests of ordered samples: of Terpstra (1952) and Jonckheere (Biometrika 41, 1954) for groups
-- that rise, and of Mack and Wolfe (Journal of the American Statistical Association 76, 1981) for
-- groups that rise up to a peak and fall from there on, an umbrella (Hollander and Wolfe,
-- Nonparametric Statistical Methods, chapter 6). Each pair of groups adds its count of Mann and
-- Whitney, doubled, so that equal values, which count one half, stay whole. All are conditional on
-- the pooled sample's values with their ties.
use Rattle.std.specs.Prelude.{ℕ, ℤ, pos, ◌+◌, ◌*◌, List, [], ◌∷◌, length, filter, slice_index, nat_eq, nat_lt, nat_le, int_lt, if◌then◌else◌}
use Rattle.std.specs.List.{flat_map, sum_by}
use Rattle.std.specs.Ordering.{int_eq}
use Rattle.weights.specs.Conditional.{ConditionalTest, every_tail}
use Rattle.weights.specs.Labellings.{labels}
use Rattle.labelled.specs.LabelTests.{LabelTest, label_test}
use Rattle.sample_reader.specs.Groups.{GroupData, group_sizes}
use Rattle.sample_reader.specs.PooledSample.{labels_of, paired_subjects, pooled}
use Rattle.sample_reader.specs.declared.subjects.Subject.{Subject}
use Rattle.pooled_columns.specs.PooledColumns.{pooled_values}
use Rattle.ordered_samples.specs.declared.used_pairs.UsedPair.{UsedPair}

-- of the groups u < v, counted from 0: up to the peak, counted from 1, u is to be the lesser one,
-- from the peak on v is, and a pair across the peak is not used
abbrev pub pair_of : ℕ → ℕ → ℕ → List UsedPair
pair_of peak u v =
    if nat_lt v peak then record { lesser = u; greater = v } ∷ []
    else (if nat_le peak (u + 1) then record { lesser = v; greater = u } ∷ [] else [])

-- the used pairs of k groups
abbrev pub used_pairs : ℕ → ℕ → List UsedPair
used_pairs peak k = flat_map (λ v. flat_map (λ u. pair_of peak u v) (labels v)) (labels k)

-- 2 where the first value is less, 1 where the two are equal
abbrev pub points : ℤ → ℤ → ℕ
points v w = if int_lt v w then 2 else (if int_eq v w then 1 else 0)

abbrev pub group_of : ℕ → List Subject → List Subject
group_of i subjects = filter (λ s. nat_eq s.label i) subjects

-- over each subject of the lesser group and each of the greater one
abbrev pub pair_points : List Subject → UsedPair → ℕ
pair_points subjects pair =
    sum_by (λ a. sum_by (λ b. points a.value b.value) (group_of pair.greater subjects))
    (group_of pair.lesser subjects)

-- over the used pairs
abbrev pub umbrella_statistic : List UsedPair → List ℤ → List ℕ → ℤ
umbrella_statistic pairs values xs =
    pos (sum_by (pair_points (paired_subjects values xs)) pairs)

-- how many pairs of subjects the used pairs of groups have, which is the mean
abbrev pub subject_pairs : List UsedPair → List ℕ → ℕ
subject_pairs pairs sizes =
    sum_by (λ q. slice_index sizes q.lesser * slice_index sizes q.greater) pairs

-- several samples in an order, and the peak, from 1 to the number of groups
pub record PeakedGroups : Type 0 where
  pub peak : ℕ
  pub groups : GroupData

abbrev pub peaked_groups_of : ℕ → List (List ℕ) → List ℕ → List ℤ → PeakedGroups
peaked_groups_of peak labels members values =
    record { peak = peak; groups = record { labels = labels; members = members; values = values } }

-- all ways to label the subjects with the groups' sizes, and the summed counts; no statistic passes
-- the square of the number of subjects
abbrev pub umbrella_says : PeakedGroups → LabelTest
umbrella_says samples =
    let sizes = group_sizes samples.groups in
    let values = pooled_values samples.groups in
    let pairs = used_pairs samples.peak (length sizes) in record {
      sizes = sizes;
      statistic = umbrella_statistic pairs values;
      observed = labels_of (pooled samples.groups);
      tails = every_tail;
      factor = 1;
      centre = pos (subject_pairs pairs sizes);
      scale = 2;
      bound = length values * length values;
    }

-- the test of groups that rise up to the peak and fall from there on; where the peak is the last
-- group, it is that of groups that rise
abbrev pub umbrella_test : PeakedGroups → ConditionalTest
umbrella_test samples = label_test (umbrella_says samples)
