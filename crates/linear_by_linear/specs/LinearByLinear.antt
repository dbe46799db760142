-- The linear-by-linear association test of ordered rows and columns (Mantel, 1963; Agresti,
-- Categorical Data Analysis): the scores of a subject's row and of its column are multiplied and
-- summed over the subjects, conditionally on the sums of the table's rows and columns.
use Rattle.std.specs.Prelude.{ℕ, ℤ, ◌*◌, ◌*ℤ◌, List}
use Rattle.std.specs.List.{sum}
use Rattle.weights.specs.Conditional.{ConditionalTest, every_tail}
use Rattle.completion_bounds.specs.Pairings.{greatest_score}
use Rattle.later_scores.specs.LaterSums.{subjects}
use Rattle.label_network.specs.Linear.{linear_statistic, row_sum}
use Rattle.labelled.specs.LabelTests.{LabelTest, label_test}
use Rattle.table_reader.specs.TableLayout.{TableData}
use Rattle.table_sums.specs.Tables.{column_sums, observed_labels, row_sums}

-- A table with a score for each row and for each column.
pub record ScoredTable : Type 0 where
  pub table : TableData
  pub row_scores : List ℤ
  pub column_scores : List ℤ

-- all ways to label the subjects with the rows' sizes, and the sum over the subjects of row score
-- times column score. With N subjects, its mean is the sum of all subjects' row scores times the
-- sum of their column scores, over N.
abbrev pub linear_says : ScoredTable → LabelTest
linear_says t =
    let rows = row_sums t.table in
    let columns = column_sums t.table in
    let subjects_in : ℕ = sum rows in record {
      sizes = rows;
      statistic = linear_statistic t.row_scores (subjects t.column_scores columns);
      observed = observed_labels t.table;
      tails = every_tail;
      factor = subjects_in;
      centre = row_sum t.row_scores rows *ℤ row_sum t.column_scores columns;
      scale = 1;
      bound = 2 * (subjects_in * subjects_in)
          * (greatest_score t.row_scores * greatest_score t.column_scores);
    }

-- the test of them
abbrev pub linear_test : ScoredTable → ConditionalTest
linear_test t = label_test (linear_says t)
