use Rattle.std.proofs.Common.{subst}
use Rattle.std.specs.Prelude.{IsPermutation}
use Rattle.weights.proofs.OneOrder.{ascending-is}
use Rattle.score_convolution.proofs.cutting.in_order.Goals as goal

pub returns : goal.returns
returns c = ascending-is c.args.scores.now c.sort_unstable.new.self.items (subst (λ l. IsPermutation l c.sort_unstable.new.self.items) c.in_ok-sorted.ensures.items c.sort_unstable.ensures.permutation) c.sort_unstable.ensures.sorted
