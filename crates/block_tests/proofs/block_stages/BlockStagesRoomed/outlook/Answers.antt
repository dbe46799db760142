use Rattle.block_tests.proofs.block_stages.BlockStagesRoomed.outlook.Goals as goal

pub outlook-requires-clause-place : goal.outlook-requires-clause-place
outlook-requires-clause-place c = rw c.in-Assigned.is at c.requires.place
