use Rattle.block_tests.proofs.block_stages.BlockStagesRoomed.advance.Goals as goal

pub advance-requires-clause-reached : goal.advance-requires-clause-reached
advance-requires-clause-reached c = rw c.in-Assigned.is at c.requires.reached

pub advance-requires-in-Squares-clause-reached : goal.advance-requires-in-Squares-clause-reached
advance-requires-in-Squares-clause-reached c = rw c.in-Squares.is at c.requires.reached

pub advance-requires-in-Page-clause-reached : goal.advance-requires-in-Page-clause-reached
advance-requires-in-Page-clause-reached c = rw c.in-Page.is at c.requires.reached
