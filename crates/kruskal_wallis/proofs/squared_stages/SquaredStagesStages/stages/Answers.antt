use Rattle.kruskal_wallis.proofs.squared_stages.SquaredStagesStages.stages.Goals as goal

pub returns-in-Packed-clause-lawful : goal.returns-in-Packed-clause-lawful
returns-in-Packed-clause-lawful c = rw c.in-Packed.is c.stages.ensures.lawful

pub returns-in-Ordered-clause-lawful : goal.returns-in-Ordered-clause-lawful
returns-in-Ordered-clause-lawful c = rw c.in-Ordered.is c.stages-in-Ordered.ensures.lawful
