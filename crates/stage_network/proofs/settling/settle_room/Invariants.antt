use Rattle.std.proofs.Common.{◌≡◌, ◌≤◌, ◌++◌, length, take}
use Rattle.networks.specs.Asked.{asked}
use Rattle.stage_network.specs.NodeSteps.{open_nodes, opened_in}
use Rattle.networks.specs.EachTail.{sum_for}
use Rattle.weights.specs.declared.tails.Tail.{Tail}
use Rattle.stage_network.specs.ArcSteps.{lift}
use Rattle.stage_network.proofs.NodeSums.{inside_weight}
use Rattle.stage_network.proofs.settling.settle_room.Given as goal

-- the open nodes and the inside weight are those of the nodes before this one
abbrev pub invariant-loop-i : goal.invariant-loop-i
invariant-loop-i g l =
    let n = asked l.tails (g.S.Stages.network l.stages) in
    let before = take l.i (lift l.room l.nodes.nodes) in
    record {
      nodes : l.kept.nodes ≡ l.fn.kept.nodes ++ open_nodes n l.stage before;
      inside : (t : Tail) → (sum_for l.inside t).sum ≡ inside_weight n t l.stage before;
      opened : (t : Tail) → (sum_for l.inside t).opened ≡ opened_in n t l.stage before;
      kept_room : l.kept.room ≡ l.room;
      named : 1 ≤ l.kept.rooms;
      here : l.kept.room_width ≡ length l.room;
      wide : l.kept.width ≡ l.fn.kept.width;
    }
