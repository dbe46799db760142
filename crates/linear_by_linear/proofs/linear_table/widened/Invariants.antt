use Rattle.std.proofs.Common.{◌≡◌, take}
use Rattle.linear_by_linear.proofs.linear_table.widened.Given as goal

abbrev pub invariant-loop-score : goal.invariant-loop-score
invariant-loop-score l = l.wide ≡ take l.score-index l.scores
