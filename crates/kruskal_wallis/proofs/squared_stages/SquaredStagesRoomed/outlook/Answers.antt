use Rattle.kruskal_wallis.proofs.squared_stages.SquaredStagesRoomed.outlook.Goals as goal

pub outlook-requires-clause-place : goal.outlook-requires-clause-place
outlook-requires-clause-place c = rw c.in-Packed.is at c.requires.place
