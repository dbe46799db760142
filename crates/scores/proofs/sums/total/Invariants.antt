use Rattle.std.proofs.Common.{◌≡◌, ◌≤◌, take}
use Rattle.std.specs.List.{sum}
use Rattle.weights.specs.declared.TheConstants.{MAX}
use Rattle.scores.proofs.sums.total.Given as goal

abbrev pub invariant-loop-number : goal.invariant-loop-number
invariant-loop-number l = record {
  sum : l.sum ≡ sum (take l.number-index l.numbers);
  fits : l.sum ≤ MAX;
}
