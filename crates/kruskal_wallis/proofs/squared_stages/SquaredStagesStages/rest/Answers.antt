use Rattle.kruskal_wallis.proofs.squared_stages.SquaredStagesStages.rest.Goals as goal

pub rest-requires : goal.rest-requires
rest-requires c = rw c.in-Packed.is at c.requires

pub returns-in-Packed : goal.returns-in-Packed
returns-in-Packed c = rw c.in-Packed.is c.rest.ensures
