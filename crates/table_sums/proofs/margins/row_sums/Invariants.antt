use Rattle.std.proofs.Common.{◌≡◌, map}
use Rattle.std.specs.List.{range_with_len, sum_by}
use Rattle.table_reader.specs.Data.{table_data_of}
use Rattle.table_sums.specs.Tables.{cell}
use Rattle.table_sums.proofs.margins.row_sums.Given as goal

abbrev pub invariant-loop-i : goal.invariant-loop-i
invariant-loop-i l = l.sums ≡ map (λ i. sum_by (λ j. cell (table_data_of l.table) i j) (range_with_len 0 l.table.columns)) (range_with_len 0 l.i)
