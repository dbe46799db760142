use Rattle.block_tests.proofs.block_stages.BlockStagesStages.stages.Goals as goal

pub returns-in-Assigned-clause-lawful : goal.returns-in-Assigned-clause-lawful
returns-in-Assigned-clause-lawful c = rw c.in-Assigned.is c.stages.ensures.lawful
