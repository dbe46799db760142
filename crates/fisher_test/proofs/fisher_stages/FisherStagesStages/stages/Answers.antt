use Rattle.fisher_test.proofs.fisher_stages.FisherStagesStages.stages.Goals as goal

pub returns-in-Cell-clause-lawful : goal.returns-in-Cell-clause-lawful
returns-in-Cell-clause-lawful c = rw c.in-Cell.is c.stages.ensures.lawful

pub returns-in-Weight-clause-lawful : goal.returns-in-Weight-clause-lawful
returns-in-Weight-clause-lawful c = rw c.in-Weight.is c.stages-in-Weight.ensures.lawful

pub returns-in-Sorted-clause-lawful : goal.returns-in-Sorted-clause-lawful
returns-in-Sorted-clause-lawful c = rw c.in-Sorted.is c.stages-in-Sorted.ensures.lawful
