use Rattle.std.proofs.Common.{◌≡◌, ◌++◌, ◌-◌}
use Rattle.std.specs.List.{flat_map, range_with_len}
use Rattle.ordered_samples.specs.Umbrella.{pair_of}
use Rattle.ordered_samples.proofs.used_pairs.push_pairs.Given as goal

abbrev pub invariant-loop-u : goal.invariant-loop-u
invariant-loop-u l = l.pairs.items ++ flat_map (λ w. pair_of l.peak w l.v) (range_with_len l.u (l.v - l.u)) ≡ l.fn.pairs.items ++ flat_map (λ w. pair_of l.peak w l.v) (range_with_len 0 l.v)
