use Rattle.block_tests.proofs.block_stages.BlockStagesStages.verdict.Goals as goal

pub verdict-requires : goal.verdict-requires
verdict-requires c = rw c.in-Assigned.is at c.requires
