use Rattle.std.proofs.Common.{◌≤◌, ◌<◌, get_or, arith}
use Rattle.block_tests.proofs.Steps.{cell-added, cell-here}
use Rattle.block_tests.proofs.sums.add_cells.Goals as goal

pub overflow_add-sums : goal.overflow_add-sums
overflow_add-sums c =
    let here = cell-here c.args.sums.now c.args.cells.now c.loop-place.sums c.loop-place.place c.requires.long c.loop-place.invariant c.loop-place-test.true in
    let small : get_or c.args.sums.now c.loop-place.place 0 ≤ 2550000 = c.requires.small c.loop-place.place 0 (omega (arith, c.requires.long, c.loop-place-test.true)) in
    let cell : get_or c.args.cells.now c.loop-place.place 0 < 256 = omega (arith, c.type_inv.cells c.loop-place.place) in
    omega (arith, here, small, cell)

pub loop-place-preserved : goal.loop-place-preserved
loop-place-preserved c = cell-added c.args.sums.now c.args.cells.now c.loop-place.sums c.loop-place.place c.requires.long c.loop-place.invariant c.loop-place-test.true
