-- A table of counts and its subjects, who stand column by column, and in a column row by row. Each
-- subject's label is its row.
use Rattle.std.specs.Prelude.{ℕ, ◌+◌, ◌*◌, List, map, replicate, slice_index, Bool, ◌&&◌, nat_eq}
use Rattle.std.specs.List.{flat_map, range_with_len, sum_by}
use Rattle.table_reader.specs.TableLayout.{TableData}

-- the count of row i and column j
abbrev pub cell : TableData → ℕ → ℕ → ℕ
cell table i j = slice_index table.cells (i * table.columns + j)

-- how many subjects each row has
abbrev pub row_sums : TableData → List ℕ
row_sums table =
    map (λ i. sum_by (λ j. cell table i j) (range_with_len 0 table.columns))
    (range_with_len 0 table.rows)

-- how many subjects each column has
abbrev pub column_sums : TableData → List ℕ
column_sums table =
    map (λ j. sum_by (λ i. cell table i j) (range_with_len 0 table.rows))
    (range_with_len 0 table.columns)

-- the table column by column, each with a count for each row
abbrev pub column_of : TableData → ℕ → List ℕ
column_of table j = map (λ i. cell table i j) (range_with_len 0 table.rows)

abbrev pub columns_in : TableData → List (List ℕ)
columns_in table = map (column_of table) (range_with_len 0 table.columns)

-- the observed labelling
abbrev pub observed_labels : TableData → List ℕ
observed_labels table =
    flat_map (λ j. flat_map (λ i. replicate (cell table i j) i) (range_with_len 0 table.rows))
    (range_with_len 0 table.columns)

abbrev pub is_two_by_two : TableData → Bool
is_two_by_two table = nat_eq table.rows 2 && nat_eq table.columns 2
