use Rattle.linear_by_linear.proofs.LinearTests.{linear-sound}
use Rattle.linear_by_linear.proofs.linear_ways.ProductSumLabelStatistic.sound.Goals as goal

pub returns : goal.returns
returns c = linear-sound c.args.self.now c.made-made.ensures.fitting
