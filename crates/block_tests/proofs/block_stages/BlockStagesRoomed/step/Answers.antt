use Rattle.block_tests.proofs.block_stages.BlockStagesRoomed.step.Goals as goal

pub step-requires-clause-arc : goal.step-requires-clause-arc
step-requires-clause-arc c = rw c.in-Assigned.is at c.requires.arc
