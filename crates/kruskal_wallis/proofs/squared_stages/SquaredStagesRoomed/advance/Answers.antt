use Rattle.kruskal_wallis.proofs.squared_stages.SquaredStagesRoomed.advance.Goals as goal

pub advance-requires-clause-reached : goal.advance-requires-clause-reached
advance-requires-clause-reached c = rw c.in-Packed.is at c.requires.reached

pub advance-requires-in-Ordered-clause-reached : goal.advance-requires-in-Ordered-clause-reached
advance-requires-in-Ordered-clause-reached c = rw c.in-Ordered.is at c.requires.reached

pub advance-requires-in-Written-clause-reached : goal.advance-requires-in-Written-clause-reached
advance-requires-in-Written-clause-reached c = rw c.in-Written.is at c.requires.reached
