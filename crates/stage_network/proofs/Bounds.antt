-- The nodes of a stage weigh no more than their completions, since a reached key has one.
use Rattle.std.proofs.Common.{ℕ, ◌*◌, ◌≤◌, List, [], ◌∷◌, arith}
use Rattle.std.proofs.lemmas.List.Sums.{sum_by-cons}
use Rattle.std.proofs.Math.Nat.{mul-le-mul_left}
use Rattle.node_pool.specs.Nodes.{Node, weighted}
use Rattle.networks.specs.Completions.{total_weight}
use Rattle.networks.specs.Laws.{IsLawful}
use Rattle.networks.specs.Network.{Network}
use Rattle.networks.proofs.Bounds.{total_weight-least}
use Rattle.stage_network.specs.NodeSteps.{AllReached}

pub weights-le-weighted : (n : Network) → IsLawful n → (g : ℕ) → g ≤ n.count → (nodes : List Node) → AllReached n g nodes → weighted (λ k. 1) nodes ≤ weighted (total_weight n g) nodes
weights-le-weighted n l g h [] r = omega arith
weights-le-weighted n l g h (a ∷ nodes) r =
    rw (sum_by-cons (λ (b : Node). b.weight * 1) a nodes, sum_by-cons (λ (b : Node). b.weight * total_weight n g b.key) a nodes)
    (omega (arith, mul-le-mul_left a.weight (total_weight-least n l g a.key r.0 h), weights-le-weighted n l g h nodes r.1))
