use Rattle.runs_test.proofs.RunKeys.{run_seat}
use Rattle.runs_test.proofs.run_measure.RunMeasure.seat.Goals as goal

pub returns : goal.returns
returns c = run_seat c.args.self.now.first c.args.self.now.second c.args.self.now.judge c.args.self.now.right c.args._stage c.args._remaining.now c.args._partial.now c.requires
