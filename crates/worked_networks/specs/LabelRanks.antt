-- A worked example: six subjects without ties, three in each sample, as labels over single
-- subjects; the second sample has the three greatest ranks. Ranks are doubled.
use Rattle.std.specs.Prelude.{ℕ, ◌+◌, ◌-◌, ◌*◌, pos, List, [], ◌∷◌, replicate, slice_index}
use Rattle.weights.specs.Conditional.{ConditionalTest, by_distance, every_tail, unit_weight}
use Rattle.weights.specs.Labellings.{labellings}
use Rattle.networks.specs.declared.verdicts.Judge.{Judge}
use Rattle.room_network.specs.Numbers.{Numbers}
use Rattle.room_network.specs.declared.numbers.Operation.TheVariants.{Sum}

abbrev pub six : List ℕ
six = replicate 6 1

abbrev pub samples : List ℕ
samples = 3 ∷ 3 ∷ []

-- the sum of the second sample's doubled ranks, the first subject's being 2 * (g + 1)
abbrev pub sum_of_ranks : ℕ → List ℕ → ℕ
sum_of_ranks g [] = 0
sum_of_ranks g (label ∷ labels) = 2 * (g + 1) * label + sum_of_ranks (g + 1) labels

abbrev pub rank_test : ConditionalTest
rank_test = record {
  reference = labellings samples;
  statistic = λ labels. pos (sum_of_ranks 0 labels);
  observed = 0 ∷ 0 ∷ 0 ∷ 1 ∷ 1 ∷ 1 ∷ [];
  weight = unit_weight;
  has_tail = every_tail;
  two_sided = by_distance 6 (pos 126);
  scale = 2;
  bound = 504;
}

-- the least sum of the doubled ranks of m subjects from stage g on, and the greatest of all six
abbrev pub first_ranks : ℕ → ℕ → ℕ
first_ranks g m = m * (2 * g + m + 1)

abbrev pub last_ranks : ℕ → ℕ
last_ranks m = m * (13 - m)

-- a choice says how many of a stage's one subject each sample gets
abbrev pub rank_numbers : Judge → Numbers (List ℕ)
rank_numbers judge = record {
  operation = Sum;
  step = λ g sizes choice. pos (2 * (g + 1) * slice_index choice 1);
  least = λ g sizes. pos (first_ranks g (slice_index sizes 1));
  greatest = λ g sizes. pos (last_ranks (slice_index sizes 1));
  judge = judge;
}
