use Rattle.std.proofs.Common.{◌≡◌, ◌++◌, ◌-◌}
use Rattle.std.specs.List.{flat_map, range_with_len}
use Rattle.weights.specs.Labellings.{labels}
use Rattle.ordered_samples.specs.Umbrella.{pair_of, used_pairs}
use Rattle.ordered_samples.proofs.used_pairs.used_pairs.Given as goal

abbrev pub invariant-loop-v : goal.invariant-loop-v
invariant-loop-v l = l.pairs.items ++ flat_map (λ w. flat_map (λ u. pair_of l.peak u w) (labels w)) (range_with_len l.v (l.groups - l.v)) ≡ used_pairs l.peak l.groups
