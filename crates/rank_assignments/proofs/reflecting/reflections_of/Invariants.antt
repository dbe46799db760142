use Rattle.std.proofs.Common.{◌≡◌, ◌≤◌, drop, map, nat_le}
use Rattle.std.specs.List.{range_with_len}
use Rattle.rank_assignments.specs.Reflections.{reflection_of}
use Rattle.rank_assignments.specs.Assignments.{given}
use Rattle.rank_assignments.proofs.reflecting.reflections_of.Given as goal

abbrev pub invariant-loop-stage : goal.invariant-loop-stage
invariant-loop-stage l = record {
  left : l.left ≡ given (drop l.stage l.items);
  small : l.left ≤ 21760000;
  done : l.reflections.items ≡ map (λ i. reflection_of (nat_le l.from i) l.treatments l.items i) (range_with_len 0 l.stage);
}
