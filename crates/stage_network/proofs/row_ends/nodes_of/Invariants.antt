use Rattle.std.proofs.Common.{◌≡◌, ◌+◌, take}
use Rattle.stage_network.specs.RowSteps.{all_nodes}
use Rattle.stage_network.proofs.row_ends.nodes_of.Given as goal

-- the nodes are those of the rows before this one
abbrev pub invariant-loop-i : goal.invariant-loop-i
invariant-loop-i g l = record {
  nodes : l.nodes.nodes ≡ all_nodes (take l.i l.rows.rows);
  here : l.nodes.room_width ≡ l.rows.width;
  wide : l.nodes.width ≡ l.rows.width + 1;
}
