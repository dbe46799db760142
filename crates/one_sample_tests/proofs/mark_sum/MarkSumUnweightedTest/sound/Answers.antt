use Rattle.one_sample_tests.proofs.FittingSamples.{can-be}
use Rattle.one_sample_tests.proofs.mark_sum.MarkSumUnweightedTest.sound.Goals as goal

pub returns : goal.returns
returns c = can-be c.args.self.now c.made-made.ensures.total_fits c.made-made.ensures.bound_fits
