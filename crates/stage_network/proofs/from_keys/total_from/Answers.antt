use Rattle.weights.specs.declared.TheConstants.{MAX}
use Rattle.std.proofs.Common.{◌≡◌, ◌+◌, ◌*◌, ◌≤◌, ap, ◌∙◌, arith, refl}
use Rattle.std.specs.Prelude.{slice_index_or}
use Rattle.std.proofs.lemmas.List.{take_all}
use Rattle.node_pool.specs.Nodes.{weighted}
use Rattle.node_pool.specs.PoolSteps.{nodes_of}
use Rattle.node_pool.specs.TableSteps.{key_at}
use Rattle.node_pool.proofs.NodeLists.{length-nodes}
use Rattle.networks.specs.Completions.{total_weight}
use Rattle.stage_network.proofs.Starting.{row-fits, key-reached, total-more, total-fits}
use Rattle.stage_network.proofs.from_keys.total_from.Given.{Over}
use Rattle.stage_network.proofs.from_keys.total_from.Goals as goal
use Rattle.stage_network.proofs.from_keys.total_from.Goals.{After-rest}

pub key_at-requires : goal.key_at-requires
key_at-requires g c = row-fits (g.S.Stages.network c.args.stages.now).width c.width-width.result c.loop-i.i c.args.keys.now c.args.weights.now c.width-width.ensures c.requires.long c.loop-i-test.true

pub rest-requires : goal.rest-requires
rest-requires g c =
    key-reached (g.S.Stages.network c.args.stages.now) c.args.stage c.args.keys.now c.args.weights.now c.requires c.loop-i.i c.loop-i-test.true c.width-width.result c.key_at.result.now c.width-width.ensures c.key_at.ensures

rest_is : (g : Over) (c : After-rest g) → c.rest.result ≡ total_weight (g.S.Stages.network c.args.stages.now) c.args.stage (key_at (g.S.Stages.network c.args.stages.now).width c.args.keys.now c.loop-i.i)
rest_is g c = c.rest.ensures ∙ ap (total_weight (g.S.Stages.network c.args.stages.now) c.args.stage) (c.key_at.ensures ∙ ap (λ v. key_at v c.args.keys.now c.loop-i.i) c.width-width.ensures)

-- the total with this key is within that of all keys
fits : (g : Over) (c : After-rest g) → c.loop-i.total + slice_index_or c.args.weights.now c.loop-i.i 0 * c.rest.result ≤ MAX
fits g c =
    let n = g.S.Stages.network c.args.stages.now in
    omega (arith, total-fits n c.args.stage c.args.keys.now c.args.weights.now c.requires c.loop-i.i c.loop-i-test.true (total_weight n c.args.stage) (slice_index_or c.args.weights.now c.loop-i.i 0) c.loop-i.total c.rest.result refl (rest_is g c) c.loop-i.invariant, c.requires.fits)

pub overflow_mul-total : goal.overflow_mul-total
overflow_mul-total g c = omega (arith, fits g (goal.at.overflow_mul-total g c).After-rest)

pub overflow_add-total : goal.overflow_add-total
overflow_add-total g c = omega (arith, fits g (goal.at.overflow_add-total g c).After-rest)

pub loop-i-preserved : goal.loop-i-preserved
loop-i-preserved g c =
    let n = g.S.Stages.network c.args.stages.now in
    total-more n c.args.stage c.args.keys.now c.args.weights.now c.requires c.loop-i.i c.loop-i-test.true (total_weight n c.args.stage) (slice_index_or c.args.weights.now c.loop-i.i 0) c.loop-i.total c.rest.result refl (rest_is g (goal.at.loop-i-preserved g c).After-rest) c.loop-i.invariant

pub returns : goal.returns
returns g c =
    let n = g.S.Stages.network c.args.stages.now in
    c.loop-i.invariant ∙ ap (weighted (total_weight n c.args.stage)) (take_all c.loop-i.i (nodes_of n.width c.args.keys.now c.args.weights.now) (omega (arith, c.loop-i-test.false, length-nodes n.width c.args.keys.now c.args.weights.now)))
