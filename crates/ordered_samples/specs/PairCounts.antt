-- The network of a test of ordered samples: a stage is a distinct value, ascending, with the
-- subjects that have it, and its choice says how many of them are of each group. A key's partial
-- counts the pairs of subjects that are both placed.
use Rattle.std.specs.Prelude.{ℕ, ◌+◌, ◌-◌, ◌*◌, pos, List, length, slice_index}
use Rattle.std.specs.List.{sum_by}
use Rattle.weights.specs.declared.tails.Tail.{Tail}
use Rattle.sample_reader.specs.Groups.{group_sizes}
use Rattle.networks.specs.declared.verdicts.Judge.{Judge}
use Rattle.networks.specs.Judged.{judge_of}
use Rattle.networks.specs.Network.{Network}
use Rattle.room_network.specs.Numbers.{Numbers}
use Rattle.room_network.specs.declared.numbers.Operation.TheVariants.{Sum}
use Rattle.label_network.specs.LabelNetwork.{label_network}
use Rattle.label_network.specs.Meanings.{Meaning, number_over_columns}
use Rattle.pooled_columns.specs.PooledColumns.{column_sizes, pooled_values}
use Rattle.ordered_samples.specs.declared.used_pairs.UsedPair.{UsedPair}
use Rattle.ordered_samples.specs.Umbrella.{PeakedGroups, umbrella_test, used_pairs}

-- how many subjects of group i have lesser values
abbrev pub placed : List ℕ → List ℕ → ℕ → ℕ
placed rows r i = slice_index rows i - slice_index r i

-- what the subjects of a column add: each subject of a greater group with those placed before it,
-- and with those beside it, which are equal
abbrev pub column_points : List UsedPair → List ℕ → List ℕ → List ℕ → ℕ
column_points pairs rows r x =
    sum_by (λ q. 2 * (placed rows r q.lesser * slice_index x q.greater)
    + slice_index x q.lesser * slice_index x q.greater) pairs

-- each placed subject of a lesser group is less than each remaining one of the greater
abbrev pub sure_points : List UsedPair → List ℕ → List ℕ → ℕ
sure_points pairs rows r =
    sum_by (λ q. 2 * (placed rows r q.lesser * slice_index r q.greater)) pairs

-- the pairs of remaining subjects can add 2 each, or nothing
abbrev pub open_points : List UsedPair → List ℕ → ℕ
open_points pairs r =
    sum_by (λ q. 2 * (slice_index r q.lesser * slice_index r q.greater)) pairs

-- The count over the used pairs of groups, from what is sure to what all open pairs can add.
abbrev pub pairs_numbers : List UsedPair → List ℕ → Judge → Numbers (List ℕ)
pairs_numbers pairs rows judge = record {
  operation = Sum;
  step = λ g r x. pos (column_points pairs rows r x);
  least = λ g r. pos (sure_points pairs rows r);
  greatest = λ g r. pos (sure_points pairs rows r + open_points pairs r);
  judge = judge;
}

abbrev pub pairs_meaning : List UsedPair → List ℕ → List ℕ → Judge → Meaning
pairs_meaning pairs rows columns judge =
    number_over_columns columns rows (pairs_numbers pairs rows judge)

abbrev pub umbrella_meaning : PeakedGroups → Meaning
umbrella_meaning samples =
    let sizes = group_sizes samples.groups in
    pairs_meaning (used_pairs samples.peak (length sizes)) sizes
    (column_sizes (pooled_values samples.groups)) (judge_of (umbrella_test samples))

-- one network for all tails
abbrev pub umbrella_network : PeakedGroups → Tail → Network
umbrella_network samples tail = label_network (umbrella_meaning samples)
