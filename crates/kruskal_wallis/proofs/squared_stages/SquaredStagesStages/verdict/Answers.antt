use Rattle.kruskal_wallis.proofs.squared_stages.SquaredStagesStages.verdict.Goals as goal

pub verdict-requires : goal.verdict-requires
verdict-requires c = rw c.in-Packed.is at c.requires
