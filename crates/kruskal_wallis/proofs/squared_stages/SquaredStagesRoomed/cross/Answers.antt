use Rattle.kruskal_wallis.proofs.squared_stages.SquaredStagesRoomed.cross.Goals as goal

pub cross-requires-clause-reached : goal.cross-requires-clause-reached
cross-requires-clause-reached c = rw c.in-Packed.is at c.requires.reached

pub cross-requires-in-Ordered-clause-reached : goal.cross-requires-in-Ordered-clause-reached
cross-requires-in-Ordered-clause-reached c = rw c.in-Ordered.is at c.requires.reached

pub cross-requires-in-Written-clause-reached : goal.cross-requires-in-Written-clause-reached
cross-requires-in-Written-clause-reached c = rw c.in-Written.is at c.requires.reached
