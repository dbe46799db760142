use Rattle.std.proofs.Common.{◌≡◌, take}
use Rattle.node_runs.specs.Runs.{IsPoured}
use Rattle.node_runs.proofs.run_pool.pour.Given as goal

-- the keys before this one are in the table
abbrev pub invariant-loop-i : goal.invariant-loop-i
invariant-loop-i g l = record {
  wide : l.table.width ≡ 1;
  poured : IsPoured l.fn.table.nodes (take l.i l.from) l.table.nodes;
}
