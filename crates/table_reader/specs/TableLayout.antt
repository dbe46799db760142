-- The layout of tables: each field is a count.
use Rattle.std.specs.Prelude.{ℕ, ◌+◌, ◌/◌, ◌==◌, Bool, false, List, [], ◌∷◌, ◌++◌, length, nat_le, Result, if◌then◌else◌}
use Rattle.record_reader.specs.declared.faults.Kind.TheVariants.{TooManyColumns}
use Rattle.record_reader.specs.declared.faults.LayoutFault.{LayoutFault}
use Rattle.record_reader.specs.declared.layouts.Shape.{Shape}
use Rattle.record_reader.specs.declared.missing.Missing.TheVariants.{Refuse}
use Rattle.record_reader.specs.declared.picks.Picks.{Picks}
use Rattle.record_reader.specs.Layouts.{Layout, read_in}
use Rattle.weights.specs.Results.{with_value}
use Rattle.table_reader.specs.Counts.{count_in}
use Rattle.table_reader.specs.declared.TheConstants.{MOST_TABLE_COLUMNS, MOST_TABLE_ROWS}

-- How many rows there are, and their counts, row by row.
pub record RowCounts : Type 0 where
  pub rows : ℕ
  pub cells : List ℕ

abbrev pub no_rows : RowCounts
no_rows = record { rows = 0; cells = [] }

-- the rows with one count more, by its place in its row: the first one begins a row
abbrev pub with_cell : ℕ → RowCounts → ℕ → RowCounts
with_cell place table count = record {
  rows = if place == 0 then table.rows + 1 else table.rows;
  cells = table.cells ++ count ∷ [];
}

abbrev pub any_table_shape : Shape
any_table_shape = record {
  narrowest = 2;
  widest = MOST_TABLE_COLUMNS;
  too_wide = TooManyColumns;
  most_rows = MOST_TABLE_ROWS;
}

abbrev pub two_by_two_shape : Shape
two_by_two_shape =
    record { narrowest = 2; widest = 2; too_wide = TooManyColumns; most_rows = 2 }

-- the shape of tables: of 2 by 2 tables, or of any
abbrev pub table_shape : Bool → Shape
table_shape two_by_two = if two_by_two then two_by_two_shape else any_table_shape

-- the layout of tables of this shape, which have at least two rows; no field is missing
abbrev pub table_layout : Shape → Layout RowCounts
table_layout shape = record {
  shape = shape;
  start = no_rows;
  with_field = λ place text table. with_value (with_cell place table) (count_in text);
  is_missing = λ place text. false;
  is_enough = λ table. nat_le 2 table.rows;
}

-- How many rows and columns there are, and the counts by rows, each with one for each column.
pub record TableData : Type 0 where
  pub rows : ℕ
  pub columns : ℕ
  pub cells : List ℕ

-- the table of these rows: each has as many columns
abbrev pub tabled : RowCounts → TableData
tabled table = record {
  rows = table.rows;
  columns = length table.cells / table.rows;
  cells = table.cells;
}

-- the table of a file, or its first fault
abbrev pub table_in : Bool → Picks → List (List (List ℕ)) → Result TableData LayoutFault
table_in two_by_two picks rows =
    with_value tabled (read_in (table_layout (table_shape two_by_two)) Refuse picks rows)
