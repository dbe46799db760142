use Rattle.std.proofs.Common.{◌≡◌, ◌++◌, ◌-ℤ◌, map, take}
use Rattle.shift_limits.proofs.differences.push_differences.Given as goal

abbrev pub invariant-loop-value : goal.invariant-loop-value
invariant-loop-value l = l.list.items ≡ l.fn.list.items ++ map (λ y. y -ℤ l.earlier) (take l.value-index l.later)
