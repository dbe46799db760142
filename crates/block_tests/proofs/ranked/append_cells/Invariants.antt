use Rattle.std.proofs.Common.{◌≡◌, ◌++◌, take}
use Rattle.block_tests.proofs.ranked.append_cells.Given as goal

abbrev pub invariant-loop-cell : goal.invariant-loop-cell
invariant-loop-cell l = l.all ≡ l.fn.all ++ take l.cell-index l.cells
