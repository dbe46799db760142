use Rattle.std.proofs.Common.{◌≡◌, take}
use Rattle.node_pool.specs.PoolSteps.{nodes_of}
use Rattle.stage_network.specs.Images.{AreImages}
use Rattle.stage_network.proofs.images.gathered.Given as goal

-- the keys before this one are gathered
abbrev pub invariant-loop-i : goal.invariant-loop-i
invariant-loop-i g l =
    let n = g.S.Stages.network l.stages in
    record {
      width : l.pool.width ≡ (g.Q.Stages.network l.quick).width;
      images : AreImages (g.Q.Onward.image_of l.quick l.stage) (take l.i (nodes_of n.width l.keys l.weights)) l.pool.nodes;
    }
