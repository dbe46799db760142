use Rattle.std.proofs.Common.{length, ◌-◌, ◌≤◌}
use Rattle.zelen_test.specs.ZelenSteps.{AreAllLaterSums}
use Rattle.zelen_test.proofs.later_sums.all_later_sums.Given as goal

abbrev pub invariant-loop-done : goal.invariant-loop-done
invariant-loop-done l = (l.done ≤ length l.fn.strata) × AreAllLaterSums l.fn.strata l.fn.sum (length l.fn.strata - l.done) l.later_sums.items
