use Rattle.kruskal_wallis.proofs.kruskal_wallis_ways.sum_by.Goals as goal

pub sum_by_images-requires-clause-goes_on : goal.sum_by_images-requires-clause-goes_on
sum_by_images-requires-clause-goes_on c = c.requires.goes_on.goes_on c.args.stage c.requires.starts.within

pub sum_by_images-requires-clause-taken : goal.sum_by_images-requires-clause-taken
sum_by_images-requires-clause-taken c = c.requires.goes_on.taken c.args.stage
