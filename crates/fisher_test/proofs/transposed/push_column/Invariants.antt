use Rattle.std.proofs.Common.{◌≡◌, ◌++◌, map}
use Rattle.std.specs.List.{range_with_len}
use Rattle.table_sums.specs.Tables.{cell}
use Rattle.fisher_test.proofs.transposed.push_column.Given as goal

abbrev pub invariant-loop-i : goal.invariant-loop-i
invariant-loop-i l = l.cells ≡ l.fn.cells ++ map (λ i. cell l.table i l.j) (range_with_len 0 l.i)
