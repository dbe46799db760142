use Rattle.weights.proofs.Sums.{absolute_sum-by}
use Rattle.scores.proofs.sums.absolute_sum.Goals as goal

pub returns : goal.returns
returns c = rw (absolute_sum-by c.args.scores.now) c.sum_of_sizes.ensures
