use Rattle.std.proofs.Common.{◌≡◌, map, take, length}
use Rattle.std.specs.Prelude.{nat_abs, pos}
use Rattle.rank_assignments.specs.Assignments.{gained}
use Rattle.rank_assignments.proofs.assigned_sums.write_gained.Given as goal

abbrev pub invariant-loop-i : goal.invariant-loop-i
invariant-loop-i l = record {
  long : length l.next ≡ length l.partial;
  filled : take l.i l.next ≡ take l.i (map pos (gained l.value l.choice (map nat_abs l.partial)));
}
