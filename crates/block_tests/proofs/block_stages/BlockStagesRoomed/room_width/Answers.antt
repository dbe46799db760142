use Rattle.block_tests.proofs.block_stages.BlockStagesRoomed.room_width.Goals as goal

pub returns-in-Assigned-clause-roomed : goal.returns-in-Assigned-clause-roomed
returns-in-Assigned-clause-roomed c = rw c.in-Assigned.is c.room_width.ensures.roomed
