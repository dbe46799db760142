use Rattle.block_tests.proofs.AssignedOnward.{stage-within}
use Rattle.block_tests.proofs.ways.BlockStatisticUnweightedTest.sum_onward.Goals as goal

pub onward_stages-requires-clause-within : goal.onward_stages-requires-clause-within
onward_stages-requires-clause-within c = stage-within c.args.self.now c.args.stage c.requires.starts.within

pub returns : goal.returns
returns c = rw c.in_ok-written.ensures at c.in_ok-sum.ensures
