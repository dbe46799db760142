use Rattle.ordered_samples.proofs.Placing.{IsPlacing}
use Rattle.ordered_samples.proofs.pair_points.place_columns.Given as goal

abbrev pub invariant-loop-g : goal.invariant-loop-g
invariant-loop-g l = IsPlacing l.pairs l.rows l.columns l.labels l.fn.left l.g l.left l.later l.sum
