-- What is known of a table of a shape that its tests take, as the bodies read it.
use Rattle.std.specs.Prelude.{◌≡◌, ℕ, ◌≤◌, List, length, slice_index, true}
use Rattle.weights.specs.declared.tails.Tail.TheVariants.{Two}
use Rattle.weights.specs.declared.TheConstants.{MAX}
use Rattle.weights.specs.Conditional.{total}
use Rattle.weights.specs.Frames.{IsShown, RulesFit}
use Rattle.weights.specs.Grouped.{columns_of, table_weight}
use Rattle.completion_bounds.specs.Fillings.{falling}
use Rattle.networks.specs.Follows.{AllFollow, Follows}
use Rattle.networks.specs.Judged.{judge_of}
use Rattle.label_network.specs.LabelNetwork.{IsMargin, over_rooms}
use Rattle.label_network.specs.Linear.{IsLinear}
use Rattle.sorted_tables.specs.SortedRooms.{rising}
use Rattle.table_reader.specs.TableLayout.{TableData}
use Rattle.table_sums.specs.Tables.{column_sums, is_two_by_two, row_sums}
use Rattle.table_sums.specs.TableSteps.{AreColumns, IsTable}
use Rattle.fisher_test.specs.FisherExact.{fisher_test, rarity}
use Rattle.fisher_test.specs.LastSteps.{AreLast}
use Rattle.fisher_test.specs.SortedWeighing.{sorted_network}
use Rattle.fisher_test.specs.FisherNetworks.{first_scores, fisher_network, rarity_meaning}
use Rattle.fisher_test.specs.WeightSteps.{IsWeighing}

-- of a table that is prepared for Fisher's test
pub record FisherFacts (t : TableData) : Type 0 where
  pub fitting : IsTable t
  pub few_rows : t.rows ≤ 8
  pub few : length (row_sums t) ≤ 8
  pub two_rows : 2 ≤ length (row_sums t)
  pub two_columns : 2 ≤ length (column_sums t)
  pub bounded : total (fisher_test t) ≤ MAX
  pub some : 1 ≤ total (fisher_test t)
  pub shown : IsShown (fisher_test t)
  pub rules : RulesFit (fisher_test t)
  pub weighing : IsWeighing (row_sums t) (column_sums t) (judge_of (fisher_test t))
  pub margin : IsMargin (over_rooms (rarity_meaning t)) (column_sums t) (row_sums t)
  pub last : AreLast (falling (row_sums t)) (rising (column_sums t)) (judge_of (fisher_test t))
  pub linear : is_two_by_two t ≡ true
      → IsLinear first_scores (row_sums t) first_scores (column_sums t) (judge_of (fisher_test t))
  pub follows : AllFollow (fisher_test t) (fisher_network t)
  pub follows_sorted : Follows (fisher_test t) Two (sorted_network t)

-- of a labelling of it
pub record FisherLabels (t : TableData) (labels : List ℕ) : Type 0 where
  pub columns : AreColumns (column_sums t) labels
  pub first : slice_index (column_sums t) 0 ≤ length labels
  pub few : table_weight (columns_of t.rows (column_sums t) labels) ≤ MAX
  pub rarity : rarity t labels ≡ table_weight (columns_of t.rows (column_sums t) labels)
