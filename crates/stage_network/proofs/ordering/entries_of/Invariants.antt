use Rattle.std.proofs.Common.{◌≡◌, length, map, take}
use Rattle.std.specs.List.{AllByRecursion}
use Rattle.stage_network.specs.declared.ordering.Entry.{Entry}
use Rattle.stage_network.specs.Ordering.{entry_node}
use Rattle.stage_network.proofs.ordering.entries_of.Given as goal

-- the nodes before this one are listed
abbrev pub invariant-loop-i : goal.invariant-loop-i
invariant-loop-i g l = record {
  nodes : map entry_node l.entries.items ≡ take l.i l.nodes.nodes;
  rooms : AllByRecursion (λ (e : Entry). length e.room.now ≡ l.nodes.room_width) l.entries.items;
}
