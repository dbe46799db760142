use Rattle.zelen_test.proofs.ZelenPlans.{seat}
use Rattle.zelen_test.proofs.sum_counts.SumCounts.seat.Goals as goal

pub returns : goal.returns
returns c = let s = c.args.self.now in seat s.strata s.sum s.right.summed s.right.fits c.args._stage c.args._room.now c.requires
