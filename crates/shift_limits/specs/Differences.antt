-- The differences between two samples, as whole numbers over one scale, and the estimate of a shift
-- by them (Hodges and Lehmann, Annals of Mathematical Statistics 34, 1963).
use Rattle.std.specs.Prelude.{ℕ, ◌+◌, ◌-◌, ◌/◌, ℤ, pos, ◌+ℤ◌, ◌-ℤ◌, int_le, nat_eq, List, length, map, slice_index_or}
use Rattle.std.specs.List.{filter, flat_map}
use Rattle.weights.specs.InOrder.{in_order}
use Rattle.scores.specs.Scores.{scale_of, score_list}
use Rattle.scores.specs.declared.kinds.ScoreKind.TheVariants.{Raw}
use Rattle.sample_reader.specs.Groups.{GroupData}
use Rattle.sample_reader.specs.PooledSample.{paired_subjects, values_of}

-- the power of ten that makes all values whole
abbrev pub decimal_places_of : GroupData → ℕ
decimal_places_of groups = scale_of Raw groups.values

-- the values with a label
unfoldable pub labelled_values : ℕ → List ℤ → List ℕ → List ℤ
labelled_values label values members =
    values_of (filter (λ s. nat_eq s.label label) (paired_subjects values members))

-- the values of the sample with a label, times that power
abbrev pub sample : ℕ → GroupData → List ℤ
sample label groups = labelled_values label (score_list Raw groups.values) groups.members

-- each of the later values less each of the earlier ones
unfoldable pub differences_between : List ℤ → List ℤ → List ℤ
differences_between earlier later = flat_map (λ x. map (λ y. y -ℤ x) later) earlier

-- the differences of a value of the second sample less one of the first, times that power,
-- ascending
abbrev pub differences : GroupData → List ℤ
differences groups = in_order int_le (differences_between (sample 0 groups) (sample 1 groups))

-- the difference at a place, counted from 1
abbrev pub difference_at : List ℤ → ℕ → ℤ
difference_at list place = slice_index_or list (place - 1) (pos 0)

-- the sum of the two middle ones, which are one where their number is odd
abbrev pub middle_of : List ℤ → ℤ
middle_of list =
    difference_at list ((length list + 1) / 2) +ℤ difference_at list (length list / 2 + 1)
