-- What the bodies of the test with odds compute, and what they keep.
use Rattle.std.specs.Prelude.{◌≡◌, ℕ, ◌+◌, ◌-◌, ◌*◌, ◌^◌, ◌≤◌, List, length, min, slice_index, true}
use Rattle.std.specs.List.{range_with_len, sum_by}
use Rattle.weights.specs.declared.TheConstants.{MAX}
use Rattle.weights.specs.declared.odds.Odds.{Odds}
use Rattle.weights.specs.Conditional.{total}
use Rattle.weights.specs.Frames.{IsShown}
use Rattle.weights.specs.Labellings.{labellings}
use Rattle.weights.specs.Numbers.{binomial}
use Rattle.networks.specs.Judged.{judge_of}
use Rattle.label_network.specs.LabelRooms.{IsLabelled}
use Rattle.label_network.specs.Linear.{IsLinear}
use Rattle.table_reader.specs.TableLayout.{TableData}
use Rattle.table_sums.specs.Tables.{column_sums, is_two_by_two, row_sums}
use Rattle.table_sums.specs.TableSteps.{IsTable}
use Rattle.fisher_test.specs.FisherExact.{first_cell}
use Rattle.weights.specs.Odds.{IsOdds, odds_weight}
use Rattle.fisher_test.specs.FisherNetworks.{first_scores}
use Rattle.two_by_two.specs.FisherOdds.{WeightedTable, labels_weight, odds_test}

-- what all labellings with a first cell weigh, where the columns have left and right subjects and
-- the first row upper
abbrev pub cell_weight : Odds → ℕ → ℕ → ℕ → ℕ → ℕ
cell_weight odds left right upper x =
    binomial left x * binomial right (upper - x) * odds_weight odds upper x

-- what those of all first cells weigh, from the least to the greatest
abbrev pub cells_weight : Odds → ℕ → ℕ → ℕ → ℕ
cells_weight odds left right upper =
    sum_by (cell_weight odds left right upper)
    (range_with_len (upper - right) (min upper left + 1 - (upper - right)))

-- what all labellings weigh
abbrev pub odds_total : Odds → List ℕ → List ℕ → ℕ
odds_total odds columns rows = sum_by (labels_weight odds columns rows) (labellings rows)

-- what the rooms keep: two columns, two rows, and odds with which all labellings weigh so much
pub record AreWeighted (odds : Odds) (columns rows : List ℕ) (total : ℕ) : Type 0 where
  pub some_odds : IsOdds odds
  pub two_columns : length columns ≡ 2
  pub two_rows : length rows ≡ 2
  pub labelled : IsLabelled columns rows
  pub total_is : total ≡ odds_total odds columns rows
  pub total_fits : total ≤ MAX

abbrev pub weighted_of : TableData → Odds → WeightedTable
weighted_of table odds = record { table = table; odds = odds }

-- what is kept of a prepared table with odds
pub record IsWeightedTable (weighted : WeightedTable) (total : ℕ) : Type 0 where
  pub square : is_two_by_two weighted.table ≡ true
  pub some_odds : IsOdds weighted.odds
  pub fitting : IsTable weighted.table
  pub total_is : total
      ≡ odds_total weighted.odds (column_sums weighted.table) (row_sums weighted.table)
  pub total_fits : total ≤ MAX

-- what is known of such a table, whose labellings weigh so much
pub record OddsFacts (w : WeightedTable) (all : ℕ) : Type 0 where
  pub total_is : all ≡ total (odds_test w)
  pub bounded : total (odds_test w) ≤ MAX
  pub some : 1 ≤ total (odds_test w)
  pub shown : IsShown (odds_test w)
  pub weighted : AreWeighted w.odds (column_sums w.table) (row_sums w.table) all
  pub linear : IsLinear first_scores (row_sums w.table) first_scores (column_sums w.table)
      (judge_of (odds_test w))

-- and of a labelling of it
pub record OddsLabels (w : WeightedTable) (labels : List ℕ) : Type 0 where
  pub within : first_cell (column_sums w.table) labels ≤ slice_index (row_sums w.table) 0
  pub above : w.odds.above ^ first_cell (column_sums w.table) labels ≤ MAX
  pub below : let upper = slice_index (row_sums w.table) 0 in
      w.odds.below ^ (upper - first_cell (column_sums w.table) labels) ≤ MAX
  pub fits : labels_weight w.odds (column_sums w.table) (row_sums w.table) labels ≤ MAX
