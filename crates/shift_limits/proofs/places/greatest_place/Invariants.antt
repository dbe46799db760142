use Rattle.std.proofs.Common.{◌-◌, ◌≡◌, ◌≤◌}
use Rattle.shift_limits.specs.LaterPairs.{greatest_to}
use Rattle.shift_limits.specs.LimitSteps.{is_within}
use Rattle.shift_limits.proofs.places.greatest_place.Given as goal

-- the least candidate passes, or is 0, and none passes above the greatest one
abbrev pub invariant-loop-low : goal.invariant-loop-low
invariant-loop-low l = record {
  order : l.low ≤ l.high;
  within : l.high ≤ l.pairs;
  passes : greatest_to (is_within l.sizes l.most) l.low ≡ l.low;
  same : greatest_to (is_within l.sizes l.most) l.high ≡ greatest_to (is_within l.sizes l.most) l.pairs;
}

abbrev pub decreases-loop-low : goal.decreases-loop-low
decreases-loop-low l = l.high - l.low
