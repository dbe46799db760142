use Rattle.std.proofs.Common.{◌≡◌, drop, length}
use Rattle.table_reader.specs.Data.{table_data_of}
use Rattle.table_sums.specs.Tables.{columns_in}
use Rattle.label_network.specs.Linear.{table_sum}
use Rattle.table_sums.proofs.ColumnSums.{IsTableSum}
use Rattle.table_sums.proofs.sums.observed_sum.Given as goal

abbrev pub invariant-loop-j : goal.invariant-loop-j
invariant-loop-j l = record {
  room : length l.column ≡ length l.row_scores;
  sums : IsTableSum l.row_scores (drop l.j l.column_scores) (drop l.j (columns_in (table_data_of l.table))) (table_sum l.row_scores l.column_scores (columns_in (table_data_of l.table))) l.j l.sum;
}
