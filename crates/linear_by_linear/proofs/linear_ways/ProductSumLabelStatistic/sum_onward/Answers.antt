use Rattle.std.proofs.Common.{◌∙◌, ap, subst, sym}
use Rattle.node_pool.specs.Nodes.{weighted}
use Rattle.node_pool.specs.PoolSteps.{nodes_of}
use Rattle.networks.specs.Completions.{extreme_weight}
use Rattle.networks.specs.Network.{Network}
use Rattle.stage_network.specs.FromKeys.{AreStarts}
use Rattle.linear_by_linear.proofs.linear_ways.ProductSumLabelStatistic.sum_onward.Goals as goal

pub sum_from_keys-requires : goal.sum_from_keys-requires
sum_from_keys-requires c = subst (λ (n : Network). AreStarts n c.args.stage c.args.keys.now c.args.weights.now) (sym c.in_ok-stages.ensures) c.requires.starts

pub returns-in_ok-sum : goal.returns-in_ok-sum
returns-in_ok-sum c =
    c.in_ok-sum.ensures
    ∙ ap (λ (n : Network). weighted (extreme_weight n c.args.tail c.args.stage) (nodes_of n.width c.args.keys.now c.args.weights.now)) c.in_ok-stages.ensures
