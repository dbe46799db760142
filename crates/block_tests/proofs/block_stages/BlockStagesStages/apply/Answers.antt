use Rattle.block_tests.proofs.block_stages.BlockStagesStages.apply.Goals as goal

pub apply-requires-clause-reached : goal.apply-requires-clause-reached
apply-requires-clause-reached c = rw c.in-Assigned.is at c.requires.reached

pub apply-requires-in-Squares-clause-reached : goal.apply-requires-in-Squares-clause-reached
apply-requires-in-Squares-clause-reached c = rw c.in-Squares.is at c.requires.reached

pub apply-requires-in-Page-clause-reached : goal.apply-requires-in-Page-clause-reached
apply-requires-in-Page-clause-reached c = rw c.in-Page.is at c.requires.reached
