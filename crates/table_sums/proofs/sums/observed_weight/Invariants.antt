use Rattle.std.proofs.Common.{◌≡◌, drop, length}
use Rattle.table_reader.specs.Data.{table_data_of}
use Rattle.weights.specs.Grouped.{table_weight}
use Rattle.table_sums.specs.Tables.{columns_in}
use Rattle.table_sums.proofs.ColumnSums.{IsMultiplied}
use Rattle.table_sums.proofs.sums.observed_weight.Given as goal

abbrev pub invariant-loop-j : goal.invariant-loop-j
invariant-loop-j l = record {
  room : length l.column ≡ l.table.rows;
  weights : IsMultiplied (table_weight (drop l.j (columns_in (table_data_of l.table)))) (table_weight (columns_in (table_data_of l.table))) l.weight;
}
