use Rattle.networks.proofs.SquaredDistances.{mean-within}
use Rattle.networks.proofs.additive.CentredSquares.from_mean.Goals as goal

pub correction-requires-clause-within : goal.correction-requires-clause-within
correction-requires-clause-within c = mean-within c.args.sums c.args.total
