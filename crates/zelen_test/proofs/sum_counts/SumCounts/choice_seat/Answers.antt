use Rattle.zelen_test.proofs.ZelenPlans.{choice-seat}
use Rattle.zelen_test.proofs.sum_counts.SumCounts.choice_seat.Goals as goal

pub returns : goal.returns
returns c = let s = c.args.self.now in choice-seat s.strata s.sum s.right.summed s.right.fits c.args._stage c.args._room.now c.args._choice.now c.requires.reached c.requires.before c.requires.allowed
