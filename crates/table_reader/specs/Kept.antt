-- What is always true of tables and strata, when all of a file is read.
use Rattle.std.specs.Prelude.{◌≡◌, ℕ, ◌*◌, ◌%◌, ◌≤◌, List, length}
use Rattle.record_reader.specs.declared.TheConstants.{MOST_ROWS}
use Rattle.record_reader.specs.declared.layouts.Shape.{Shape}
use Rattle.table_reader.specs.TableLayout.{TableData}

-- A table that has a shape.
pub record HasShape (shape : Shape) (table : TableData) : Type 0 where
  pub two_rows : 2 ≤ table.rows
  pub few_rows : table.rows ≤ shape.most_rows
  pub two_columns : 2 ≤ table.columns
  pub few_columns : table.columns ≤ shape.widest
  pub one_each : length table.cells ≡ table.rows * table.columns

-- Counts that make strata: four of each.
pub record AreWholeStrata (cells : List ℕ) : Type 0 where
  pub not_empty : 4 ≤ length cells
  pub few_enough : length cells ≤ 4 * MOST_ROWS
  pub four_each : length cells % 4 ≡ 0
