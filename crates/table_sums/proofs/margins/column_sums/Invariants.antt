use Rattle.std.proofs.Common.{◌≡◌, map}
use Rattle.std.specs.List.{range_with_len, sum_by}
use Rattle.table_reader.specs.Data.{table_data_of}
use Rattle.table_sums.specs.Tables.{cell}
use Rattle.table_sums.proofs.margins.column_sums.Given as goal

abbrev pub invariant-loop-j : goal.invariant-loop-j
invariant-loop-j l = l.sums ≡ map (λ j. sum_by (λ i. cell (table_data_of l.table) i j) (range_with_len 0 l.table.rows)) (range_with_len 0 l.j)
