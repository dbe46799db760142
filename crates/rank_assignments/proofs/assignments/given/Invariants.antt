use Rattle.std.proofs.Common.{◌≡◌, ◌≤◌, ◌*◌, take}
use Rattle.rank_assignments.specs.Assignments.{given}
use Rattle.rank_assignments.proofs.assignments.given.Given as goal

abbrev pub invariant-loop-i : goal.invariant-loop-i
invariant-loop-i l = record {
  is : l.all ≡ given (take l.i l.items);
  small : l.all ≤ l.i * 128;
}
