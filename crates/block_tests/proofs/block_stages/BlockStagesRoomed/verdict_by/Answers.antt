use Rattle.block_tests.proofs.block_stages.BlockStagesRoomed.verdict_by.Goals as goal

pub verdict_by-requires-clause-reached : goal.verdict_by-requires-clause-reached
verdict_by-requires-clause-reached c = rw c.in-Assigned.is at c.requires.reached

pub verdict_by-requires-in-Squares-clause-reached : goal.verdict_by-requires-in-Squares-clause-reached
verdict_by-requires-in-Squares-clause-reached c = rw c.in-Squares.is at c.requires.reached
