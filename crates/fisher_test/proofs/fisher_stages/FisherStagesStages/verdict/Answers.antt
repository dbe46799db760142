use Rattle.fisher_test.proofs.fisher_stages.FisherStagesStages.verdict.Goals as goal

pub verdict-requires : goal.verdict-requires
verdict-requires c = rw c.in-Cell.is at c.requires
