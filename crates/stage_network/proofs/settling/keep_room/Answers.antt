use Rattle.std.proofs.Common.{◌++◌, ◌∷◌, [], take, ap, sym, ◌∙◌, arith, append_assoc}
use Rattle.node_pool.specs.Nodes.{node}
use Rattle.stage_network.specs.ArcSteps.{lift}
use Rattle.stage_network.proofs.RoomNodes.{next-kept, all-nodes}
use Rattle.stage_network.proofs.settling.keep_room.Goals as goal

pub loop-i-preserved : goal.loop-i-preserved
loop-i-preserved g c =
    let r = c.args.room.now in
    let partials = c.args.nodes.now.nodes in
    let i = c.loop-i.i in
    let p = c.key.result.now in
    let w = g.C.Count.number c.weight.result in
    record {
      nodes = c.in_ok-push.ensures.nodes
          ∙ ap (λ a. c.loop-i.kept.nodes ++ a ∷ []) (ap (λ x. node (x ++ p) w) c.loop-i.invariant.kept_room)
          ∙ ap (λ ns. ns ++ node (r ++ p) w ∷ []) c.loop-i.invariant.nodes
          ∙ append_assoc c.args.kept.now.nodes (take i (lift r partials)) (node (r ++ p) w ∷ [])
          ∙ ap (λ ns. c.args.kept.now.nodes ++ ns) (sym (next-kept r partials i (omega (arith, c.loop-i-test.true, c.len-i-end.ensures.count)) p w c.key.ensures.key c.weight.ensures));
      kept_room = c.in_ok-push.ensures.room ∙ c.loop-i.invariant.kept_room;
      named = rw c.in_ok-push.ensures.named c.loop-i.invariant.named;
      here = c.in_ok-push.ensures.room_width ∙ c.loop-i.invariant.here;
      wide = c.in_ok-push.ensures.width ∙ c.loop-i.invariant.wide;
    }

pub returns-clause-nodes : goal.returns-clause-nodes
returns-clause-nodes g c = c.loop-i.invariant.nodes ∙ ap (λ ns. c.args.kept.now.nodes ++ ns) (all-nodes c.args.room.now c.args.nodes.now.nodes c.loop-i.i (omega (arith, c.loop-i-test.false, c.len-i-end.ensures.count)))
