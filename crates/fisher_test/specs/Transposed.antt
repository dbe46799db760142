-- Fisher's test of a table, by the table transposed: its rows and its columns change places. What
-- is counted is in the ratio of the totals.
use Rattle.std.specs.Prelude.{◌≡◌, ℕ, ◌*◌, ◌/◌, ◌%◌, ◌<◌, ◌≤◌, pos, nat_abs, map, false}
use Rattle.std.specs.List.{flat_map, range_with_len}
use Rattle.weights.specs.declared.lines.Line.{Line}
use Rattle.weights.specs.declared.tails.Tail.TheVariants.{Two}
use Rattle.weights.specs.Conditional.{distribution, numerator, total}
use Rattle.table_reader.specs.TableLayout.{TableData}
use Rattle.table_sums.specs.Tables.{cell, column_of, is_two_by_two}
use Rattle.fisher_test.specs.FisherExact.{fisher_test}

-- a table and the same table transposed
pub record AreTransposed (t u : TableData) : Type 0 where
  pub rows : u.rows ≡ t.columns
  pub columns : u.columns ≡ t.rows
  pub cells : (i j : ℕ) → i < t.rows → j < t.columns → cell u j i ≡ cell t i j

-- the table transposed: its rows are the columns
abbrev pub transposed_data : TableData → TableData
transposed_data t = record {
  rows = t.columns;
  columns = t.rows;
  cells = flat_map (column_of t) (range_with_len 0 t.columns);
}

-- a line with its value and its weight in the ratio of two totals
abbrev pub scaled_line : ℕ → ℕ → Line → Line
scaled_line total of line = record {
  value = pos (nat_abs line.value * total / of);
  weight = line.weight * total / of;
}

-- what is counted in two tests is in the ratio of their totals: the tail on both sides, and where
-- the statistic is the table's weight also the lines of the distribution
pub record AreInRatio (t u : TableData) : Type 0 where
  pub numerators : numerator (fisher_test t) Two * total (fisher_test u)
      ≡ numerator (fisher_test u) Two * total (fisher_test t)
  pub distributions : is_two_by_two t ≡ false
      → let scaled = scaled_line (total (fisher_test t)) (total (fisher_test u)) in
      distribution (fisher_test t) ≡ map scaled (distribution (fisher_test u))

-- a table that is not of 2 by 2, and the same table transposed
pub record IsServedBy (t u : TableData) : Type 0 where
  pub transposed : AreTransposed t u
  pub shape : is_two_by_two t ≡ false

-- a line whose value and weight are parts of a total, and in the ratio of the totals whole numbers
pub record IsScalable (total of : ℕ) (line : Line) : Type 0 where
  pub natural : line.value ≡ pos (nat_abs line.value)
  pub value_within : nat_abs line.value ≤ of
  pub value_whole : (total * nat_abs line.value) % of ≡ 0
  pub weight_within : line.weight ≤ of
  pub weight_whole : (total * line.weight) % of ≡ 0
