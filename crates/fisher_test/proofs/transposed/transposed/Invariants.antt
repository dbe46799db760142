use Rattle.std.proofs.Common.{◌≡◌}
use Rattle.std.specs.List.{flat_map, range_with_len}
use Rattle.table_sums.specs.Tables.{column_of}
use Rattle.fisher_test.proofs.transposed.transposed.Given as goal

abbrev pub invariant-loop-j : goal.invariant-loop-j
invariant-loop-j l = l.cells ≡ flat_map (column_of l.table) (range_with_len 0 l.j)
