-- What the bodies compute of a table, column by column, and which tables they take.
use Rattle.std.specs.Prelude.{◌≡◌, ℕ, ◌*◌, ◌<◌, ◌≤◌, ℤ, List, length, slice_index}
use Rattle.std.specs.List.{sum}
use Rattle.weights.specs.declared.TheConstants.{MAX}
use Rattle.weights.specs.Labellings.{number_of_labellings}
use Rattle.completion_bounds.specs.Pairings.{greatest_score}
use Rattle.table_reader.specs.declared.TheConstants.{MOST_COUNT, MOST_TABLE_COLUMNS, MOST_TABLE_ROWS}
use Rattle.table_reader.specs.Counts.{AreCounts}
use Rattle.table_reader.specs.TableLayout.{TableData}
use Rattle.table_sums.specs.declared.TheConstants.{MOST_SCORE}
use Rattle.table_sums.specs.declared.margins.Margins.{Margins}
use Rattle.table_sums.specs.Tables.{column_sums, row_sums}

-- no score is greater than may be
abbrev pub AreScores : List ℤ → Type 0
AreScores us = greatest_score us ≤ MOST_SCORE

-- the most subjects that a column has
abbrev pub most_subjects : ℕ
most_subjects = MOST_TABLE_ROWS * MOST_COUNT

-- a bound of what a column adds to a sum of products
abbrev pub most_added : ℕ
most_added = MOST_SCORE * (MOST_SCORE * most_subjects)

-- columns of subjects, and their labels
pub record AreColumns (columns labels : List ℕ) : Type 0 where
  pub level : sum columns ≡ length labels
  pub few_columns : length columns ≤ MOST_TABLE_COLUMNS
  pub few : (j : ℕ) → j < length columns → slice_index columns j ≤ most_subjects

-- scores of rows and of columns, and labels of the columns' subjects
pub record AreScored (us vs : List ℤ) (columns labels : List ℕ) : Type 0 where
  pub row_sizes : AreScores us
  pub column_sizes : AreScores vs
  pub few : length us ≤ MOST_TABLE_ROWS
  pub level : length vs ≡ length columns
  pub whole : AreColumns columns labels

-- the sums of the rows and of the columns
pub record AreMargins (table : TableData) (margins : Margins) : Type 0 where
  pub rows : margins.rows ≡ row_sums table
  pub columns : margins.columns ≡ column_sums table

-- a table of a shape that its tests take
pub record IsTable (table : TableData) : Type 0 where
  pub two_rows : 2 ≤ table.rows
  pub few_rows : table.rows ≤ MOST_TABLE_ROWS
  pub two_columns : 2 ≤ table.columns
  pub few_columns : table.columns ≤ MOST_TABLE_COLUMNS
  pub one_each : length table.cells ≡ table.rows * table.columns
  pub total_fits : number_of_labellings (row_sums table) ≤ MAX
  pub counts : AreCounts table.cells

abbrev pub table_of : ℕ → ℕ → List ℕ → TableData
table_of rows columns cells = record { rows = rows; columns = columns; cells = cells }
