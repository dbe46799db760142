use Rattle.block_tests.proofs.block_stages.BlockStagesStages.next_choice.Goals as goal

pub next_choice-requires-clause-reached : goal.next_choice-requires-clause-reached
next_choice-requires-clause-reached c = rw c.in-Assigned.is at c.requires.reached

pub next_choice-requires-in-Squares-clause-reached : goal.next_choice-requires-in-Squares-clause-reached
next_choice-requires-in-Squares-clause-reached c = rw c.in-Squares.is at c.requires.reached

pub next_choice-requires-in-Page-clause-reached : goal.next_choice-requires-in-Page-clause-reached
next_choice-requires-in-Page-clause-reached c = rw c.in-Page.is at c.requires.reached
