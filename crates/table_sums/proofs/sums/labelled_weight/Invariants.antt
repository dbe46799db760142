use Rattle.std.proofs.Common.{◌≡◌, drop, length}
use Rattle.weights.specs.Grouped.{columns_of, table_weight}
use Rattle.table_sums.proofs.ColumnSums.{IsMultiplied, IsReading}
use Rattle.table_sums.proofs.sums.labelled_weight.Given as goal

abbrev pub invariant-loop-column : goal.invariant-loop-column
invariant-loop-column l = record {
  room : length l.counts ≡ l.rows;
  reading : IsReading l.rows l.columns l.column-index l.later;
  weights : IsMultiplied (table_weight (columns_of l.rows (drop l.column-index l.columns) l.later)) (table_weight (columns_of l.rows l.columns l.labels)) l.weight;
}
