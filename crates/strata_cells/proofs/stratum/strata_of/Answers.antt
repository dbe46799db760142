use Rattle.std.proofs.Common.{sym}
use Rattle.strata_cells.proofs.StrataReads.{read-next, stratum-is}
use Rattle.strata_cells.proofs.stratum.strata_of.Goals as goal

pub loop-number-preserved : goal.loop-number-preserved
loop-number-preserved c = rw (c.in_ok-push.ensures.ok, sym (stratum-is c.args.cells.now c.loop-number.number)) (read-next c.args.cells.now c.loop-number.number c.loop-number.strata c.loop-number-test.true c.loop-number.invariant)
