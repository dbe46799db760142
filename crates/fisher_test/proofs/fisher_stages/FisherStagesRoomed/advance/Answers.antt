use Rattle.fisher_test.proofs.fisher_stages.FisherStagesRoomed.advance.Goals as goal

pub advance-requires-clause-reached : goal.advance-requires-clause-reached
advance-requires-clause-reached c = rw c.in-Cell.is at c.requires.reached

pub advance-requires-in-Weight-clause-reached : goal.advance-requires-in-Weight-clause-reached
advance-requires-in-Weight-clause-reached c = rw c.in-Weight.is at c.requires.reached

pub advance-requires-in-Sorted-clause-reached : goal.advance-requires-in-Sorted-clause-reached
advance-requires-in-Sorted-clause-reached c = rw c.in-Sorted.is at c.requires.reached
