use Rattle.std.proofs.Common.{◌≡◌, take}
use Rattle.sample_reader.proofs.labels.Labels.copy.Given as goal

abbrev pub invariant-loop-label : goal.invariant-loop-label
invariant-loop-label l = l.copy ≡ take l.label l.self
