use Rattle.std.proofs.Common.{◌≡◌, ◌+◌, drop}
use Rattle.ordered_samples.specs.Umbrella.{subject_pairs}
use Rattle.ordered_samples.proofs.pair_points.subject_pairs.Given as goal

abbrev pub invariant-loop-i : goal.invariant-loop-i
invariant-loop-i l = l.sum + subject_pairs (drop l.i l.pairs) l.sizes ≡ subject_pairs l.pairs l.sizes
