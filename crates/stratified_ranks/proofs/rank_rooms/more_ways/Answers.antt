use Rattle.stratified_ranks.proofs.RankPlans.{own-fits}
use Rattle.stratified_ranks.proofs.rank_rooms.more_ways.Goals as goal

pub ways_of-requires-clause-fits : goal.ways_of-requires-clause-fits
ways_of-requires-clause-fits c = rw (c.left.ensures, c.second_of.ensures) (own-fits c.args.column c.args.later.now c.args.behind c.if-column-eq0.true c.requires.behind c.requires.fits).0
