use Rattle.block_tests.proofs.block_stages.BlockStagesStages.first_choice.Goals as goal

pub first_choice-requires-clause-reached : goal.first_choice-requires-clause-reached
first_choice-requires-clause-reached c = rw c.in-Assigned.is at c.requires.reached
