use Rattle.fisher_test.proofs.fisher_stages.FisherStagesStages.first_choice.Goals as goal

pub first_choice-requires-clause-reached : goal.first_choice-requires-clause-reached
first_choice-requires-clause-reached c = rw c.in-Cell.is at c.requires.reached
