-- The rank sum test of two samples in strata (Lehmann, Nonparametrics, chapter 3): the sum of the
-- second group's ranks, each among the values of its own stratum. It is conditional on the values
-- of each stratum, with their ties. Every rank counts alike, where the statistic of van Elteren
-- (Bulletin of the International Statistical Institute 37, 1960) weighs each stratum's sum by
-- 1 / (N + 1).
use Rattle.std.specs.Prelude.{ℕ, pos, ◌+◌, ◌*◌, List, [], ◌∷◌, length, map, slice_index, nat_eq, if◌then◌else◌}
use Rattle.std.specs.List.{concat, range_with_len, sum_by}
use Rattle.weights.specs.Conditional.{ConditionalTest, by_distance, every_tail, unit_weight}
use Rattle.weights.specs.InOrder.{in_order}
use Rattle.weights.specs.Labellings.{counts_of}
use Rattle.enumerate.specs.Joined.{joined_labellings}
use Rattle.midranks.specs.Midranks.{doubled_midranks}
use Rattle.scores.specs.Scores.{labelled_sum}
use Rattle.sample_reader.specs.PooledSample.{labels_of, may_precede, paired_subjects, values_of}
use Rattle.sample_reader.specs.StrataGroups.{StrataGroupData}
use Rattle.sample_reader.specs.declared.subjects.Subject.{Subject}

-- of items that each have a place, those at place k
abbrev pub at_place : {X : Type 0} → ℕ → List ℕ → List X → List X
at_place k [] xs = []
at_place k (p ∷ places) [] = []
at_place k (p ∷ places) (x ∷ xs) =
    if nat_eq p k then x ∷ at_place k places xs else at_place k places xs

-- the subjects of stratum k, by ascending value
abbrev pub stratum_subjects : StrataGroupData → ℕ → List Subject
stratum_subjects samples k =
    let subjects = paired_subjects samples.values samples.members in
    in_order may_precede (at_place k samples.places subjects)

-- those of each stratum
abbrev pub strata_subjects : StrataGroupData → List (List Subject)
strata_subjects samples =
    map (stratum_subjects samples) (range_with_len 0 (length samples.strata))

-- how many subjects of a stratum are of the first group, and of the second
abbrev pub two_sizes : List Subject → List ℕ
two_sizes stratum = counts_of 2 (labels_of stratum)

abbrev pub second_size : List Subject → ℕ
second_size stratum = slice_index (two_sizes stratum) 1

-- the doubled midrank of each subject among the values of its stratum
abbrev pub ranks_in : List Subject → List ℕ
ranks_in stratum = doubled_midranks (values_of stratum)

-- The subjects of one stratum after those of another, relabelled within each stratum, and the sum
-- of the doubled midranks of those with the label 1. In a stratum of N subjects with n of the
-- second group, the mean of its sum is n (N + 1).
abbrev pub ranked_strata_test : List (List Subject) → ConditionalTest
ranked_strata_test strata = record {
  reference = joined_labellings (map two_sizes strata);
  statistic = labelled_sum 1 (map pos (concat (map ranks_in strata)));
  observed = concat (map labels_of strata);
  weight = unit_weight;
  has_tail = every_tail;
  two_sided = by_distance 1 (pos (sum_by (λ s. second_size s * (length s + 1)) strata));
  scale = 2;
  bound = 2 * sum_by (λ s. length s * (length s + 1)) strata;
}

-- the test of two samples by ranks within strata: the second group is that with the label 1
abbrev pub stratified_rank_test : StrataGroupData → ConditionalTest
stratified_rank_test samples = ranked_strata_test (strata_subjects samples)
