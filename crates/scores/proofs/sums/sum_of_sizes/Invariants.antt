use Rattle.std.proofs.Common.{◌≡◌, ◌≤◌, nat_abs, take}
use Rattle.std.specs.List.{sum_by}
use Rattle.weights.specs.declared.TheConstants.{MAX}
use Rattle.scores.proofs.sums.sum_of_sizes.Given as goal

abbrev pub invariant-loop-score : goal.invariant-loop-score
invariant-loop-score l = record {
  sum : l.sum ≡ sum_by nat_abs (take l.score-index l.scores);
  fits : l.sum ≤ MAX;
}
