use Rattle.fisher_test.proofs.fisher_stages.FisherStagesRoomed.cross.Goals as goal

pub cross-requires-clause-reached : goal.cross-requires-clause-reached
cross-requires-clause-reached c = rw c.in-Cell.is at c.requires.reached

pub cross-requires-in-Weight-clause-reached : goal.cross-requires-in-Weight-clause-reached
cross-requires-in-Weight-clause-reached c = rw c.in-Weight.is at c.requires.reached

pub cross-requires-in-Sorted-clause-reached : goal.cross-requires-in-Sorted-clause-reached
cross-requires-in-Sorted-clause-reached c = rw c.in-Sorted.is at c.requires.reached
