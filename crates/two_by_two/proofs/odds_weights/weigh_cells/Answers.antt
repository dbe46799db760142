use Rattle.std.proofs.Common.{◌≡◌, arith}
use Rattle.weights.proofs.RangeSums.{added-first, added-next, added-whole, added-within}
use Rattle.two_by_two.specs.OddsSteps.{cell_weight, cells_weight}
use Rattle.two_by_two.proofs.odds_weights.weigh_cells.Goals as goal

pub loop-cell-init : goal.loop-cell-init
loop-cell-init c = added-first (cell_weight c.args.odds c.args.left c.args.right c.args.upper) c.saturating_sub-least.result c.min-most.result (omega (arith, c.saturating_sub-least.ensures, c.min-most.ensures, c.requires.level))

pub returns-in_err-weight : goal.returns-in_err-weight
returns-in_err-weight c =
    let within = added-within (cell_weight c.args.odds c.args.left c.args.right c.args.upper) c.saturating_sub-least.result c.min-most.result c.loop-cell.cell c.loop-cell.all c.loop-cell-test.true c.loop-cell.invariant in
    let whole = rw (c.saturating_sub-least.ensures, c.min-most.ensures) at within in
    rw c.from_residual.ensures (λ fits. c.in_err-weight.ensures (omega (arith, whole, fits)))

pub returns-in_err-all : goal.returns-in_err-all
returns-in_err-all c =
    let within = added-within (cell_weight c.args.odds c.args.left c.args.right c.args.upper) c.saturating_sub-least.result c.min-most.result c.loop-cell.cell c.loop-cell.all c.loop-cell-test.true c.loop-cell.invariant in
    let whole = rw (c.saturating_sub-least.ensures, c.min-most.ensures) at within in
    rw c.from_residual-in_err-all.ensures (λ fits. c.in_err-all.ensures (rw c.in_ok-weight.ensures.1 (omega (arith, whole, fits))))

pub loop-cell-preserved : goal.loop-cell-preserved
loop-cell-preserved c =
    let told = rw c.in_ok-weight.ensures.1 at c.in_ok-all.ensures in
    rw told.1 (added-next _ _ _ c.loop-cell.cell c.loop-cell.all c.loop-cell-test.true c.loop-cell.invariant told.0)

pub returns : goal.returns
returns c =
    let all : c.loop-cell.all ≡ cells_weight c.args.odds c.args.left c.args.right c.args.upper = rw (c.saturating_sub-least.ensures, c.min-most.ensures) at (added-whole (cell_weight c.args.odds c.args.left c.args.right c.args.upper) c.saturating_sub-least.result c.min-most.result c.loop-cell.cell c.loop-cell.all (omega (arith, c.loop-cell-test.false)) c.loop-cell.invariant) in
    (omega (arith, all, c.loop-cell.invariant.fits), all)
