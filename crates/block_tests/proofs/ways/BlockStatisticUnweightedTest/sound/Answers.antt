use Rattle.block_tests.proofs.Fitting.{can-be}
use Rattle.block_tests.proofs.ways.BlockStatisticUnweightedTest.sound.Goals as goal

pub returns : goal.returns
returns c = can-be c.args.self.now c.blocks-fitting.ensures.fitting
