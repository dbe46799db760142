use Rattle.fisher_test.proofs.fisher_stages.FisherStagesStages.rest.Goals as goal

pub rest-requires : goal.rest-requires
rest-requires c = rw c.in-Cell.is at c.requires

pub returns-in-Cell : goal.returns-in-Cell
returns-in-Cell c = rw c.in-Cell.is c.rest.ensures
