use Rattle.std.proofs.Common.{◌≡◌, take}
use Rattle.block_tests.proofs.squares.write_cells.Given as goal

abbrev pub invariant-loop-place : goal.invariant-loop-place
invariant-loop-place l = take l.place l.choice ≡ take l.place l.cells
