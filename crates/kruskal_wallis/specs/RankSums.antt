-- The network of the test of Kruskal and Wallis: a stage is a distinct value, ascending, with the
-- subjects that have it, and its choice says how many of them are of each group. A key's partial is
-- the sum of scores that each group has so far.
use Rattle.std.specs.Prelude.{ℕ, ◌*◌, ℤ, pos, ◌*ℤ◌, List, ◌++◌, length, map, min, replicate}
use Rattle.weights.specs.declared.tails.Tail.{Tail}
use Rattle.completion_bounds.specs.Boxes.{factored_squares, greatest_squares, least_squares}
use Rattle.sample_reader.specs.Groups.{group_sizes}
use Rattle.networks.specs.declared.verdicts.Judge.{Judge}
use Rattle.networks.specs.Judged.{judge_of}
use Rattle.networks.specs.Network.{Network}
use Rattle.later_scores.specs.LaterSums.{greatest_sum, later_scores, least_sum}
use Rattle.label_network.specs.LabelNetwork.{label_network}
use Rattle.label_network.specs.Linear.{score_of}
use Rattle.label_network.specs.Meanings.{Meaning}
use Rattle.networks.specs.PartialSums.{plus}
use Rattle.pooled_columns.specs.PooledColumns.{column_scores, column_sizes, pooled_values}
use Rattle.kruskal_wallis.specs.KruskalWallis.{ScoredGroups, kruskal_wallis_test, size_factors}

-- what counts of subjects with one score add to the groups' sums
abbrev pub score_parts : ℤ → List ℕ → List ℤ
score_parts s counts = map (λ n. pos n *ℤ s) counts

-- the least that groups of the sizes that remain can get of the later scores, each by itself
abbrev pub least_parts : List ℤ → List ℕ → List ℤ
least_parts later sizes = map (λ n. least_sum n later) sizes

-- and the most
abbrev pub greatest_parts : List ℤ → List ℕ → List ℤ
greatest_parts later sizes = map (λ n. greatest_sum n later) sizes

-- the least sum of squares over the box of these ranges, no more than the bound
abbrev pub squares_low : List ℕ → ℕ → List ℤ → List ℕ → List ℤ → ℤ
squares_low factors bound later r p =
    pos (min (least_squares (plus p (least_parts later r))
    (plus p (greatest_parts later r)) factors) bound)

-- and the greatest
abbrev pub squares_high : List ℕ → ℕ → List ℤ → List ℕ → List ℤ → ℤ
squares_high factors bound later r p =
    pos (min (greatest_squares (plus p (least_parts later r))
    (plus p (greatest_parts later r)) factors) bound)

-- The factored sum of the groups' squared sums, between its ends over the box of the sums that the
-- groups can come to.
abbrev pub squares_meaning :
    List ℕ → ℕ → List ℤ → List ℕ → List ℕ → Judge → Meaning
squares_meaning factors bound scores columns rows judge = record {
  columns = columns;
  rows = rows;
  slots = length rows;
  step_width = length rows;
  outlook_width = 2 * length rows;
  first = replicate (length rows) (pos 0);
  step = λ g r x. score_parts (score_of scores g) x;
  advance = λ g r x p. plus p (score_parts (score_of scores g) x);
  outlook = λ g r.
      least_parts (later_scores scores columns g) r
      ++ greatest_parts (later_scores scores columns g) r;
  value = λ p. pos (factored_squares p factors);
  low = λ g r p. squares_low factors bound (later_scores scores columns g) r p;
  high = λ g r p. squares_high factors bound (later_scores scores columns g) r p;
  judge = judge;
}

-- a number for each group
abbrev pub unpacked_meaning : ScoredGroups → Meaning
unpacked_meaning samples =
    let test = kruskal_wallis_test samples in
    let sizes = group_sizes samples.groups in
    let values = pooled_values samples.groups in
    squares_meaning (size_factors sizes) test.bound (column_scores samples.kind values)
    (column_sizes values) sizes (judge_of test)

abbrev pub kruskal_wallis_network : ScoredGroups → Tail → Network
kruskal_wallis_network samples tail = label_network (unpacked_meaning samples)
