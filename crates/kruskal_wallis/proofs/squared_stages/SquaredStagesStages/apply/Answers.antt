use Rattle.kruskal_wallis.proofs.squared_stages.SquaredStagesStages.apply.Goals as goal

pub apply-requires-clause-reached : goal.apply-requires-clause-reached
apply-requires-clause-reached c = rw c.in-Packed.is at c.requires.reached

pub apply-requires-in-Ordered-clause-reached : goal.apply-requires-in-Ordered-clause-reached
apply-requires-in-Ordered-clause-reached c = rw c.in-Ordered.is at c.requires.reached

pub apply-requires-in-Written-clause-reached : goal.apply-requires-in-Written-clause-reached
apply-requires-in-Written-clause-reached c = rw c.in-Written.is at c.requires.reached
