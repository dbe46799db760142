use Rattle.block_tests.proofs.AssignedOnward.{alike-onward}
use Rattle.block_tests.proofs.ways.centred_onward.Goals as goal

pub returns : goal.returns
returns c = alike-onward c.args.test.now _ c.in_ok-stages.ensures.goes_on c.args.stage c.requires.within
