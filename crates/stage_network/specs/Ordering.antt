-- Nodes in ascending order of their keys.
use Rattle.std.specs.Prelude.{◌++◌}
use Rattle.std.specs.Ordering.{ordering_then}
use Rattle.std.specs.declared.cmp.Ordering.{Ordering}
use Rattle.node_pool.specs.Nodes.{Node, key_cmp, node}
use Rattle.stage_network.specs.declared.ordering.Entry.{Entry}

-- the node that an entry shows
abbrev pub entry_node : Entry → Node
entry_node e = node (e.room.now ++ e.partial.now) e.weight

-- by room, and then by partial
abbrev pub entry_cmp : Entry → Entry → Ordering
entry_cmp a b = ordering_then (key_cmp a.room.now b.room.now) (key_cmp a.partial.now b.partial.now)
