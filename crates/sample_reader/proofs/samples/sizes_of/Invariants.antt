use Rattle.std.proofs.Common.{◌≡◌}
use Rattle.weights.specs.Labellings.{counts_of}
use Rattle.sample_reader.proofs.samples.sizes_of.Given as goal

abbrev pub invariant-loop-group : goal.invariant-loop-group
invariant-loop-group l = l.sizes ≡ counts_of l.group-counter l.members
