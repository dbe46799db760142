use Rattle.kruskal_wallis.proofs.squared_stages.SquaredStagesRoomed.verdict_by.Goals as goal

pub verdict_by-requires-clause-reached : goal.verdict_by-requires-clause-reached
verdict_by-requires-clause-reached c = rw c.in-Packed.is at c.requires.reached

pub verdict_by-requires-in-Ordered-clause-reached : goal.verdict_by-requires-in-Ordered-clause-reached
verdict_by-requires-in-Ordered-clause-reached c = rw c.in-Ordered.is at c.requires.reached

pub verdict_by-requires-clause-outlook : goal.verdict_by-requires-clause-outlook
verdict_by-requires-clause-outlook c = rw c.in-Packed.is at c.requires.outlook
