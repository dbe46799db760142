use Rattle.std.proofs.Common.{◌≡◌, take}
use Rattle.shift_limits.specs.Differences.{labelled_values}
use Rattle.shift_limits.proofs.samples.labelled_values.Given as goal

abbrev pub invariant-loop-i : goal.invariant-loop-i
invariant-loop-i l = l.chosen ≡ labelled_values l.label (take l.i l.values) (take l.i l.members)
