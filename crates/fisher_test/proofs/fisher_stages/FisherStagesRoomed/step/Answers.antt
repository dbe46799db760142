use Rattle.fisher_test.proofs.fisher_stages.FisherStagesRoomed.step.Goals as goal

pub step-requires-clause-arc : goal.step-requires-clause-arc
step-requires-clause-arc c = rw c.in-Cell.is at c.requires.arc

pub step-requires-in-Weight-clause-arc : goal.step-requires-in-Weight-clause-arc
step-requires-in-Weight-clause-arc c = rw c.in-Weight.is at c.requires.arc

pub step-requires-in-Sorted-clause-arc : goal.step-requires-in-Sorted-clause-arc
step-requires-in-Sorted-clause-arc c = rw c.in-Sorted.is at c.requires.arc
