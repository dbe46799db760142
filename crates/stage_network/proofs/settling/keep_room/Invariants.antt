use Rattle.std.proofs.Common.{◌≡◌, ◌≤◌, ◌++◌, length, take}
use Rattle.stage_network.specs.ArcSteps.{lift}
use Rattle.stage_network.proofs.settling.keep_room.Given as goal

-- the nodes are those before this one
abbrev pub invariant-loop-i : goal.invariant-loop-i
invariant-loop-i g l = record {
  nodes : l.kept.nodes ≡ l.fn.kept.nodes ++ take l.i (lift l.room l.nodes.nodes);
  kept_room : l.kept.room ≡ l.room;
  named : 1 ≤ l.kept.rooms;
  here : l.kept.room_width ≡ length l.room;
  wide : l.kept.width ≡ l.fn.kept.width;
}
