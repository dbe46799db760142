use Rattle.std.proofs.Common.{◌≤◌, ◌+◌}
use Rattle.zelen_test.specs.ZelenSteps.{AreNumbers}
use Rattle.zelen_test.proofs.later_sums.numbers_of.Given as goal

abbrev pub invariant-loop-left : goal.invariant-loop-left
invariant-loop-left l = (l.first ≤ l.left) × (l.left ≤ l.last + 1) × AreNumbers l.stratum l.later l.first l.left l.numbers
