use Rattle.block_tests.proofs.block_stages.BlockStagesRoomed.is_shift.Goals as goal

pub returns-in-Assigned : goal.returns-in-Assigned
returns-in-Assigned c = rw c.in-Assigned.is c.is_shift.ensures
