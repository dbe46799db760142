use Rattle.std.proofs.Common.{◌≤◌}
use Rattle.kruskal_wallis.proofs.kruskal_wallis_ways.equal_neighbours.Given as goal

abbrev pub invariant-loop-i : goal.invariant-loop-i
invariant-loop-i l = record {
  few : l.equal ≤ l.i;
}
