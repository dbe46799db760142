use Rattle.std.proofs.Common.{◌≡◌, drop, length}
use Rattle.weights.specs.Grouped.{columns_of}
use Rattle.label_network.specs.Linear.{table_sum}
use Rattle.table_sums.proofs.ColumnSums.{IsReading, IsTableSum}
use Rattle.table_sums.proofs.sums.labelled_sum.Given as goal

abbrev pub invariant-loop-j : goal.invariant-loop-j
invariant-loop-j l = record {
  room : length l.counts ≡ length l.row_scores;
  reading : IsReading (length l.row_scores) l.columns l.j l.later;
  sums : IsTableSum l.row_scores (drop l.j l.column_scores) (columns_of (length l.row_scores) (drop l.j l.columns) l.later)
      (table_sum l.row_scores l.column_scores (columns_of (length l.row_scores) l.columns l.labels)) l.j l.sum;
}
