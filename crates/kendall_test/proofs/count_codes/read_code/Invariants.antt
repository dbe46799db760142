use Rattle.std.proofs.Common.{◌≡◌, ◌+◌, ◌-◌, ◌++◌, length, take}
use Rattle.kendall_test.specs.CountCodes.{counts_in, last_mark}
use Rattle.kendall_test.proofs.count_codes.read_code.Given as goal

abbrev pub invariant-loop-i : goal.invariant-loop-i
invariant-loop-i l = record {
  long : length l.counts ≡ length l.fn.counts;
  read : take l.i l.counts ++ counts_in (length l.fn.counts - l.i) l.bits ≡ counts_in (length l.fn.counts) (l.fn.code + last_mark l.fn.units);
}
