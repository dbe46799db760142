use Rattle.node_pool.specs.PoolSteps.{nodes_of}
use Rattle.stage_network.proofs.from_keys.sum_from_keys.Given as goal

abbrev pub ghost-sum_in : goal.ghost-sum_in
ghost-sum_in g a = nodes_of (g.S.Stages.network a.stages.now).width a.keys.now a.weights.now

abbrev pub ghost-sum_in-2 : goal.ghost-sum_in-2
ghost-sum_in-2 g a = nodes_of (g.S.Stages.network a.stages.now).width a.keys.now a.weights.now
