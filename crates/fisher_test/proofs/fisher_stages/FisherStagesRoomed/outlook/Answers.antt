use Rattle.fisher_test.proofs.fisher_stages.FisherStagesRoomed.outlook.Goals as goal

pub outlook-requires-clause-place : goal.outlook-requires-clause-place
outlook-requires-clause-place c = rw c.in-Cell.is at c.requires.place
