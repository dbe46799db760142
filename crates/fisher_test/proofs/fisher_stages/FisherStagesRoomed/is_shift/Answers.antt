use Rattle.fisher_test.proofs.fisher_stages.FisherStagesRoomed.is_shift.Goals as goal

pub returns-in-Cell : goal.returns-in-Cell
returns-in-Cell c = rw c.in-Cell.is c.is_shift.ensures

pub returns-in-Weight : goal.returns-in-Weight
returns-in-Weight c = rw c.in-Weight.is c.is_shift-in-Weight.ensures

pub returns-in-Sorted : goal.returns-in-Sorted
returns-in-Sorted c = rw c.in-Sorted.is c.is_shift-in-Sorted.ensures
