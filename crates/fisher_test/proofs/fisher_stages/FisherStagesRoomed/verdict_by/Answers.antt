use Rattle.fisher_test.proofs.fisher_stages.FisherStagesRoomed.verdict_by.Goals as goal

pub verdict_by-requires-clause-reached : goal.verdict_by-requires-clause-reached
verdict_by-requires-clause-reached c = rw c.in-Cell.is at c.requires.reached

pub verdict_by-requires-in-Weight-clause-reached : goal.verdict_by-requires-in-Weight-clause-reached
verdict_by-requires-in-Weight-clause-reached c = rw c.in-Weight.is at c.requires.reached

pub verdict_by-requires-in-Sorted-clause-reached : goal.verdict_by-requires-in-Sorted-clause-reached
verdict_by-requires-in-Sorted-clause-reached c = rw c.in-Sorted.is at c.requires.reached
