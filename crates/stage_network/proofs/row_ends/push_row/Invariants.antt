use Rattle.std.proofs.Common.{◌≡◌, ◌≤◌, ◌++◌, map, take}
use Rattle.std.specs.Prelude.{pos}
use Rattle.count_arrays.specs.Rows.{row_nodes}
use Rattle.stage_network.specs.ArcSteps.{lift}
use Rattle.stage_network.proofs.row_ends.push_row.Given as goal

-- the nodes are those of the cells before this one
abbrev pub invariant-loop-i : goal.invariant-loop-i
invariant-loop-i g l = record {
  nodes : l.nodes.nodes ≡ l.fn.nodes.nodes ++ lift l.room (row_nodes l.lowest (pos l.stride) (take l.i (map g.C.Count.number l.cells)));
  room : l.nodes.room ≡ l.room;
  named : 1 ≤ l.nodes.rooms;
  here : l.nodes.room_width ≡ l.fn.nodes.room_width;
  wide : l.nodes.width ≡ l.fn.nodes.width;
}
