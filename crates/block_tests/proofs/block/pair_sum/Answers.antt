use Rattle.std.proofs.Common.{sym}
use Rattle.block_tests.proofs.EvenBlocks.{pair-at}
use Rattle.block_tests.proofs.block.pair_sum.Goals as goal

pub returns : goal.returns
returns c = sym (pair-at c.args.numbers.now c.args.place c.requires)
