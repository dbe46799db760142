-- What is kept of a table with scores that is prepared.
use Rattle.std.specs.Prelude.{◌≡◌, ℤ, List, length}
use Rattle.table_reader.specs.TableLayout.{TableData}
use Rattle.table_sums.specs.TableSteps.{AreMargins, AreScores, IsTable}
use Rattle.linear_by_linear.specs.LinearByLinear.{ScoredTable}
use Rattle.linear_by_linear.specs.declared.linear_table.ScoredMargins.{ScoredMargins}

abbrev pub scored_of : TableData → List ℤ → List ℤ → ScoredTable
scored_of table us vs = record { table = table; row_scores = us; column_scores = vs }

-- a table with a score for each row and for each column
pub record AreFitting (scored : ScoredTable) : Type 0 where
  pub table : IsTable scored.table
  pub rows_level : length scored.row_scores ≡ scored.table.rows
  pub columns_level : length scored.column_scores ≡ scored.table.columns
  pub row_sizes : AreScores scored.row_scores
  pub column_sizes : AreScores scored.column_scores

-- the sums of such a table, and its scores
pub record IsScored (scored : ScoredTable) (made : ScoredMargins) : Type 0 where
  pub margins : AreMargins scored.table made.margins
  pub row_scores : made.row_scores ≡ scored.row_scores
  pub column_scores : made.column_scores ≡ scored.column_scores
  pub fitting : AreFitting scored
