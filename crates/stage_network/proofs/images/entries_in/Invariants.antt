use Rattle.std.proofs.Common.{◌≡◌, map, take}
use Rattle.stage_network.specs.Ordering.{entry_node}
use Rattle.stage_network.proofs.images.entries_in.Given as goal

-- the nodes before this one are listed
abbrev pub invariant-loop-i : goal.invariant-loop-i
invariant-loop-i l = map entry_node l.entries.items ≡ take l.i l.pool.nodes
