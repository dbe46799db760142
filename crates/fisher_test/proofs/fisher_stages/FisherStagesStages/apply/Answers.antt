use Rattle.fisher_test.proofs.fisher_stages.FisherStagesStages.apply.Goals as goal

pub apply-requires-clause-reached : goal.apply-requires-clause-reached
apply-requires-clause-reached c = rw c.in-Cell.is at c.requires.reached

pub apply-requires-in-Weight-clause-reached : goal.apply-requires-in-Weight-clause-reached
apply-requires-in-Weight-clause-reached c = rw c.in-Weight.is at c.requires.reached

pub apply-requires-in-Sorted-clause-reached : goal.apply-requires-in-Sorted-clause-reached
apply-requires-in-Sorted-clause-reached c = rw c.in-Sorted.is at c.requires.reached
