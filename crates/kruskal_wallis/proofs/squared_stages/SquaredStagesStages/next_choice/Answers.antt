use Rattle.kruskal_wallis.proofs.squared_stages.SquaredStagesStages.next_choice.Goals as goal

pub next_choice-requires-clause-reached : goal.next_choice-requires-clause-reached
next_choice-requires-clause-reached c = rw c.in-Packed.is at c.requires.reached

pub next_choice-requires-in-Ordered-clause-reached : goal.next_choice-requires-in-Ordered-clause-reached
next_choice-requires-in-Ordered-clause-reached c = rw c.in-Ordered.is at c.requires.reached

pub next_choice-requires-in-Written-clause-reached : goal.next_choice-requires-in-Written-clause-reached
next_choice-requires-in-Written-clause-reached c = rw c.in-Written.is at c.requires.reached
