use Rattle.std.proofs.Common.{◌≡◌, ℕ, List, subst, sym}
use Rattle.std.specs.Prelude.{ℤ, IfOk}
use Rattle.node_pool.specs.Nodes.{weighted}
use Rattle.node_pool.specs.PoolSteps.{nodes_of}
use Rattle.networks.specs.Completions.{extreme_weight}
use Rattle.networks.specs.GoesOn.{GoesOnFor}
use Rattle.networks.specs.Network.{Network}
use Rattle.stage_network.specs.FromKeys.{AreStarts}
use Rattle.kruskal_wallis.proofs.kruskal_wallis_ways.SquaredSumsLabelStatistic.sum_onward.Goals as goal

goes-for : (n m q : Network) (takes : ℕ → List ℤ → Type 0) (image : ℕ → List ℤ → List ℤ) → n ≡ m → GoesOnFor m q takes image → GoesOnFor n q takes image
goes-for n m q takes image same goes = subst (λ i. GoesOnFor i q takes image) (sym same) goes

pub sum_by-requires-clause-starts : goal.sum_by-requires-clause-starts
sum_by-requires-clause-starts c = subst (λ (n : Network). AreStarts n c.args.stage c.args.keys.now c.args.weights.now) (sym c.in_ok-written.ensures) c.requires.starts

pub sum_by-requires-clause-goes_on : goal.sum_by-requires-clause-goes_on
sum_by-requires-clause-goes_on c = goes-for _ _ _ _ _ c.in_ok-written.ensures c.in_ok-quick.ensures.goes_on

pub returns : goal.returns
returns c =
    subst (λ (n : Network). IfOk c.sum_by.result (λ sum. sum ≡ weighted (extreme_weight n c.args.tail c.args.stage) (nodes_of n.width c.args.keys.now c.args.weights.now))) c.in_ok-written.ensures c.sum_by.ensures
