use Rattle.kruskal_wallis.proofs.squared_stages.SquaredStagesRoomed.step.Goals as goal

pub step-requires-clause-arc : goal.step-requires-clause-arc
step-requires-clause-arc c = rw c.in-Packed.is at c.requires.arc

pub step-requires-in-Ordered-clause-arc : goal.step-requires-in-Ordered-clause-arc
step-requires-in-Ordered-clause-arc c = rw c.in-Ordered.is at c.requires.arc
