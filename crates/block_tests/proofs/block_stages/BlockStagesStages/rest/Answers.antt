use Rattle.block_tests.proofs.block_stages.BlockStagesStages.rest.Goals as goal

pub rest-requires : goal.rest-requires
rest-requires c = rw c.in-Assigned.is at c.requires

pub returns-in-Assigned : goal.returns-in-Assigned
returns-in-Assigned c = rw c.in-Assigned.is c.rest.ensures
