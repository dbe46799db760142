use Rattle.zelen_test.proofs.LaterSums.{stratum-seat}
use Rattle.zelen_test.proofs.later_sums.stratum_seat.Goals as goal

pub returns : goal.returns
returns c = stratum-seat c.args._strata.now c.args._sum c.requires.summed c.args._place c.requires.place c.args._later.now c.requires.later
