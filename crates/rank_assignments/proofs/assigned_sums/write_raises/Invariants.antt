use Rattle.std.proofs.Common.{◌≡◌, take, length}
use Rattle.rank_assignments.specs.Assignments.{raises}
use Rattle.rank_assignments.proofs.assigned_sums.write_raises.Given as goal

abbrev pub invariant-loop-i : goal.invariant-loop-i
invariant-loop-i l = record {
  long : length l.step ≡ length l.choice;
  filled : take l.i l.step ≡ take l.i (raises l.value l.choice);
}
