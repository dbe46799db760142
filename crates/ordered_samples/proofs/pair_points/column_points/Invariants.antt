use Rattle.std.proofs.Common.{◌≡◌, ◌+◌, drop}
use Rattle.ordered_samples.specs.PairCounts.{column_points}
use Rattle.ordered_samples.proofs.pair_points.column_points.Given as goal

abbrev pub invariant-loop-i : goal.invariant-loop-i
invariant-loop-i l = l.sum + column_points (drop l.i l.pairs) l.rows l.left l.column ≡ column_points l.pairs l.rows l.left l.column
