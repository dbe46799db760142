use Rattle.std.proofs.Common.{◌≡◌, ◌<◌, ◌≤◌, ◌+◌, ◌*◌}
use Rattle.report.proofs.decimals.next_digit.Given as goal

abbrev pub invariant-loop-turn : goal.invariant-loop-turn
invariant-loop-turn l = record {
  is : l._turn * l.rest ≡ l.digit * l.denominator + l.sum;
  below : l.sum < l.denominator;
  few : l.digit ≤ l._turn;
}
