-- The network of the stratified rank sum test: a stage is a distinct value of a stratum, by stratum
-- and then ascending, with the subjects that have it. A room is how many of the second group remain
-- in the stratum, and a choice how many of the value's subjects are of that group.
use Rattle.std.specs.Prelude.{ℕ, ℤ, pos, ◌+◌, ◌-◌, ◌*◌, List, [], ◌∷◌, ◌++◌, length, drop, min, nat_eq, replicate, slice_index_or, if◌then◌else◌}
use Rattle.weights.specs.Labellings.{number_of_labellings}
use Rattle.midranks.specs.Ties.{tie_groups, values_in}
use Rattle.midranks.specs.declared.ties.Tie.{Tie}
use Rattle.sample_reader.specs.PooledSample.{values_of}
use Rattle.sample_reader.specs.declared.subjects.Subject.{Subject}
use Rattle.networks.specs.declared.verdicts.Judge.{Judge}
use Rattle.room_network.specs.Meanings.{Meaning}
use Rattle.room_network.specs.Numbers.{Numbers, scalar_meaning}
use Rattle.room_network.specs.Plans.{Floor, Plan, Weights}
use Rattle.room_network.specs.declared.numbers.Operation.TheVariants.{Sum}
use Rattle.count_rooms.specs.OneCount.{choices_between, chosen, remaining}
use Rattle.stratified_ranks.specs.StratifiedRanks.{second_size}
use Rattle.stratified_ranks.specs.declared.rank_columns.Column.{Column}

-- ---- columns

-- of the tie groups of a stratum that come after so many lesser values, each as a column; `second`
-- of the stratum's subjects are of the second group
abbrev pub columns_after : ℕ → ℕ → List Tie → List Column
columns_after second before [] = []
columns_after second before (t ∷ ties) = record {
  size = t.count;
  later = values_in ties;
  rank = 2 * before + t.count + 1;
  second = second;
} ∷ columns_after second (before + t.count) ties

abbrev pub stratum_columns : List Subject → List Column
stratum_columns stratum = columns_after (second_size stratum) 0 (tie_groups (values_of stratum))

abbrev pub rank_columns : List (List Subject) → List Column
rank_columns [] = []
rank_columns (s ∷ strata) = stratum_columns s ++ rank_columns strata

abbrev pub column_at : List Column → ℕ → Column
column_at columns g =
    slice_index_or columns g (record { size = 0; later = 0; rank = 0; second = 0 })

-- ---- rooms

-- how many subjects of the stratum are left from the first column on
abbrev pub left : List Column → ℕ
left [] = 0
left (c ∷ columns) = c.size + c.later

-- how many of the stratum's subjects are of the second group, 0 where there is no column
abbrev pub second_of : List Column → ℕ
second_of [] = 0
second_of (c ∷ columns) = c.second

-- with r to be placed, x of them in a column before others: as many remain for the stratum's later
-- columns, and behind its last column stand those of the next stratum
abbrev pub remaining_after : Column → List Column → ℕ → ℕ → ℕ
remaining_after c columns r x = if nat_eq c.later 0 then second_of columns else r - x

-- how many of a column's subjects can then be of the second group, at least and at most
abbrev pub fewest_here : Column → ℕ → ℕ
fewest_here c r = r - c.later

abbrev pub most_here : Column → ℕ → ℕ
most_here c r = min c.size r

abbrev pub rank_floor : List Column → Floor
rank_floor columns = record {
  count = length columns;
  width = 1;
  choice_width = 1;
  first = pos (second_of columns) ∷ [];
  choices = λ g room. let c = column_at columns g in let r = remaining room in
      choices_between (fewest_here c r) (most_here c r);
  later = λ g room x.
      choices_between (chosen x + 1) (most_here (column_at columns g) (remaining room));
  next = λ g room x. let later = drop (g + 1) columns in
      pos (remaining_after (column_at columns g) later (remaining room) (chosen x)) ∷ [];
}

-- the labellings of n subjects with x of the second group
abbrev pub ways_of : ℕ → ℕ → ℕ
ways_of n x = number_of_labellings ((n - x) ∷ x ∷ [])

abbrev pub rank_weight : List Column → Weights
rank_weight columns g room x = ways_of (column_at columns g).size (chosen x)

abbrev pub rank_plan : List Column → Plan
rank_plan columns = record { floor = rank_floor columns; weight = rank_weight columns }

-- ---- the sum of ranks

-- the rank of each subject from the first column on; they ascend within a stratum
abbrev pub column_ranks : List Column → List ℕ
column_ranks [] = []
column_ranks (c ∷ columns) = replicate c.size c.rank ++ column_ranks columns

-- the sum of ranks that is added from a column on, with r to be placed and so many in each column
abbrev pub added_with : (Column → ℕ → ℕ) → List Column → ℕ → ℕ
added_with here [] r = 0
added_with here (c ∷ columns) r =
    here c r * c.rank + added_with here columns (remaining_after c columns r (here c r))

-- the least, of which as many as can be have the lesser ranks, and the greatest
abbrev pub least_added : List Column → ℕ → ℕ
least_added = added_with most_here

abbrev pub greatest_added : List Column → ℕ → ℕ
greatest_added = added_with fewest_here

abbrev pub rank_numbers : List Column → Judge → Numbers (List ℤ)
rank_numbers columns judge = record {
  operation = Sum;
  step = λ g room x. pos (chosen x * (column_at columns g).rank);
  least = λ g room. pos (least_added (drop g columns) (remaining room));
  greatest = λ g room. pos (greatest_added (drop g columns) (remaining room));
  judge = judge;
}

abbrev pub rank_meaning : List Column → Judge → Meaning
rank_meaning columns judge = scalar_meaning (rank_floor columns) (rank_numbers columns judge)
