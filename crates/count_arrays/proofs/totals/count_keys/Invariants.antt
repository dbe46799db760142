use Rattle.std.proofs.Common.{◌≡◌, ◌≤◌, length, take, map}
use Rattle.std.specs.Prelude.{ℤ}
use Rattle.count_arrays.specs.Rows.{row_nodes}
use Rattle.count_arrays.proofs.totals.count_keys.Given as goal

abbrev pub invariant-loop-cell : goal.invariant-loop-cell
invariant-loop-cell g l = record {
  within : l.count ≤ l.cell-index;
  told : (lowest stride : ℤ) → l.count ≡ length (row_nodes lowest stride (take l.cell-index (map g.C.Count.number l.cells)));
}
