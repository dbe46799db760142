use Rattle.std.proofs.Common.{ap, ◌∙◌, arith, refl}
use Rattle.std.specs.Prelude.{slice_index_or}
use Rattle.std.proofs.lemmas.List.{take_all}
use Rattle.node_pool.specs.PoolSteps.{nodes_of}
use Rattle.node_pool.specs.TableSteps.{key_at}
use Rattle.node_pool.specs.Nodes.{NodeRow}
use Rattle.node_pool.proofs.NodeLists.{length-nodes}
use Rattle.networks.specs.Network.{Network}
use Rattle.stage_network.proofs.Starting.{key-reached, row-fits}
use Rattle.stage_network.proofs.Imaged.{next-fits, none-gathered, one-gathered}
use Rattle.stage_network.proofs.images.gathered.Goals as goal

pub loop-i-init : goal.loop-i-init
loop-i-init g c =
    let n : Network = g.S.Stages.network c.args.stages.now in
    record {
      width = ap (λ (p : NodeRow). p.width) c.in_ok-pool.ensures ∙ c.width.ensures;
      images = none-gathered (g.Q.Onward.image_of c.args.quick.now c.args.stage) (nodes_of n.width c.args.keys.now c.args.weights.now) c.in_ok-pool.pool.nodes (ap (λ (p : NodeRow). p.nodes) c.in_ok-pool.ensures);
    }

pub key_at-requires : goal.key_at-requires
key_at-requires g c = row-fits (g.S.Stages.network c.args.stages.now).width c.width-width.result c.loop-i.i c.args.keys.now c.args.weights.now c.width-width.ensures c.requires.starts.long c.loop-i-test.true

pub add_image-requires-clause-key : goal.add_image-requires-clause-key
add_image-requires-clause-key g c =
    c.requires.taken c.key_at.result.now
    (key-reached (g.S.Stages.network c.args.stages.now) c.args.stage c.args.keys.now c.args.weights.now c.requires.starts c.loop-i.i c.loop-i-test.true c.width-width.result c.key_at.result.now c.width-width.ensures c.key_at.ensures)

pub add_image-requires-clause-fits : goal.add_image-requires-clause-fits
add_image-requires-clause-fits g c =
    next-fits (g.S.Stages.network c.args.stages.now) c.stages-count.ensures.lawful c.args.stage c.args.keys.now c.args.weights.now c.requires.starts (g.Q.Onward.image_of c.args.quick.now c.args.stage) c.loop-i.i (slice_index_or c.args.weights.now c.loop-i.i 0) c.loop-i-test.true refl c.loop-i.pool.nodes c.loop-i.invariant.images

pub loop-i-preserved : goal.loop-i-preserved
loop-i-preserved g c =
    let n : Network = g.S.Stages.network c.args.stages.now in
    record {
      width = c.in_ok-add_image.ensures.width ∙ c.loop-i.invariant.width;
      images = one-gathered n c.stages-count.ensures.lawful c.args.stage c.args.keys.now c.args.weights.now c.requires.starts (g.Q.Onward.image_of c.args.quick.now c.args.stage) c.loop-i.i (slice_index_or c.args.weights.now c.loop-i.i 0) c.loop-i-test.true refl
          c.key_at.result.now (c.key_at.ensures ∙ ap (λ v. key_at v c.args.keys.now c.loop-i.i) c.width-width.ensures) c.loop-i.pool.nodes c.add_image.new.pool.nodes c.loop-i.invariant.images c.in_ok-add_image.ensures.grown;
    }

pub returns-clause-images : goal.returns-clause-images
returns-clause-images g c =
    let n : Network = g.S.Stages.network c.args.stages.now in
    let all = take_all c.loop-i.i (nodes_of n.width c.args.keys.now c.args.weights.now) (omega (arith, c.loop-i-test.false, length-nodes n.width c.args.keys.now c.args.weights.now)) in
    rw all at c.loop-i.invariant.images
