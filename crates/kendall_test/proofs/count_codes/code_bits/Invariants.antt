use Rattle.std.proofs.Common.{◌≡◌, ◌≤◌, drop, length}
use Rattle.kendall_test.specs.CountCodes.{marks}
use Rattle.kendall_test.proofs.count_codes.code_bits.Given as goal

abbrev pub invariant-loop-i : goal.invariant-loop-i
invariant-loop-i l = record {
  within : l.i ≤ length l.counts;
  here : l.bits ≡ marks (drop l.i l.counts);
}

abbrev pub decreases-loop-i : goal.decreases-loop-i
decreases-loop-i l = l.i
