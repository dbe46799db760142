use Rattle.std.proofs.Common.{◌≡◌, arith}
use Rattle.std.specs.Prelude.{Some}
use Rattle.strata_cells.specs.Strata.{greatest_cell, least_cell}
use Rattle.stratified_tests.specs.StrataNetwork.{weighed_cell}
use Rattle.stratified_tests.specs.StrataSteps.{weighed}
use Rattle.weights.proofs.RangeSums.{added-first, added-next, added-whole, added-within}
use Rattle.strata_cells.proofs.FirstCells.{cells-meet}
use Rattle.stratified_tests.proofs.totals.weighed.Goals as goal

pub loop-cell-init : goal.loop-cell-init
loop-cell-init c =
    let s = c.args.stratum in
    rw c.least_cell-least.ensures (added-first (weighed_cell (Some c.args.odds) s) (least_cell s) (greatest_cell s) (cells-meet s))

pub returns-in_err-weighed_cell : goal.returns-in_err-weighed_cell
returns-in_err-weighed_cell c =
    let s = c.args.stratum in
    let within = added-within (weighed_cell (Some c.args.odds) s) (least_cell s) (greatest_cell s) c.loop-cell.cell c.loop-cell.all (omega (arith, c.loop-cell-test.true, c.greatest_cell-most.ensures)) c.loop-cell.invariant in
    rw c.from_residual.ensures (λ whole. c.in_err-weighed_cell.ensures (omega (arith, within, whole)))

pub returns-in_err-all : goal.returns-in_err-all
returns-in_err-all c =
    let s = c.args.stratum in
    let within = added-within (weighed_cell (Some c.args.odds) s) (least_cell s) (greatest_cell s) c.loop-cell.cell c.loop-cell.all (omega (arith, c.loop-cell-test.true, c.greatest_cell-most.ensures)) c.loop-cell.invariant in
    rw c.from_residual-in_err-all.ensures (λ whole. c.in_err-all.ensures (rw c.in_ok-weighed_cell.ensures.1 (omega (arith, within, whole))))

pub loop-cell-preserved : goal.loop-cell-preserved
loop-cell-preserved c =
    let s = c.args.stratum in
    let told = rw c.in_ok-weighed_cell.ensures.1 at c.in_ok-all.ensures in
    rw told.1 (added-next (weighed_cell (Some c.args.odds) s) (least_cell s) (greatest_cell s) c.loop-cell.cell c.loop-cell.all (omega (arith, c.loop-cell-test.true, c.greatest_cell-most.ensures)) c.loop-cell.invariant told.0)

pub returns : goal.returns
returns c =
    let s = c.args.stratum in
    let all : c.loop-cell.all ≡ weighed c.args.odds s = added-whole (weighed_cell (Some c.args.odds) s) (least_cell s) (greatest_cell s) c.loop-cell.cell c.loop-cell.all (omega (arith, c.loop-cell-test.false, c.greatest_cell-most.ensures)) c.loop-cell.invariant in
    (omega (arith, all, c.loop-cell.invariant.fits), all)
