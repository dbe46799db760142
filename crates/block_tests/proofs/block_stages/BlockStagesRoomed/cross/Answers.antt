use Rattle.block_tests.proofs.block_stages.BlockStagesRoomed.cross.Goals as goal

pub cross-requires-clause-reached : goal.cross-requires-clause-reached
cross-requires-clause-reached c = rw c.in-Assigned.is at c.requires.reached

pub cross-requires-in-Squares-clause-reached : goal.cross-requires-in-Squares-clause-reached
cross-requires-in-Squares-clause-reached c = rw c.in-Squares.is at c.requires.reached

pub cross-requires-in-Page-clause-reached : goal.cross-requires-in-Page-clause-reached
cross-requires-in-Page-clause-reached c = rw c.in-Page.is at c.requires.reached
