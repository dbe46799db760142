use Rattle.kruskal_wallis.proofs.squared_stages.SquaredStagesStages.first_choice.Goals as goal

pub first_choice-requires-clause-reached : goal.first_choice-requires-clause-reached
first_choice-requires-clause-reached c = rw c.in-Packed.is at c.requires.reached
