use Rattle.std.proofs.Common.{◌≡◌, take}
use Rattle.shift_limits.specs.Differences.{differences_between}
use Rattle.shift_limits.proofs.differences.differences_between.Given as goal

abbrev pub invariant-loop-value : goal.invariant-loop-value
invariant-loop-value l = l.list.items ≡ differences_between (take l.value-index l.earlier) l.later
