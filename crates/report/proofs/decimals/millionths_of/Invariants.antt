use Rattle.std.proofs.Common.{◌≡◌, ◌<◌, ◌≤◌, ◌+◌, ◌*◌, ◌^◌}
use Rattle.report.proofs.decimals.millionths_of.Given as goal

abbrev pub invariant-loop-turn : goal.invariant-loop-turn
invariant-loop-turn l = record {
  is : 10 ^ l._turn * l.numerator ≡ l.whole * l.denominator + l.rest;
  below : l.rest < l.denominator;
  few : l.whole ≤ 10 ^ l._turn;
}
