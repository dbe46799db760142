-- A node of a stage, by its place.
use Rattle.std.proofs.Common.{◌≡◌, ℕ, zero, suc, ◌<◌, List, [], ◌∷◌, get_or, length, arith}
use Rattle.std.specs.Prelude.{ℤ}
use Rattle.std.proofs.lemmas.List.{get_or_default}
use Rattle.node_pool.specs.Nodes.{Node, node}
use Rattle.networks.specs.Network.{Network, IsReached}
use Rattle.stage_network.specs.NodeSteps.{AllReached}

-- a node's key is reached
pub reached_at : (n : Network) (g : ℕ) (nodes : List Node) (i : ℕ) (d : Node) → AllReached n g nodes → i < length nodes → IsReached n g (get_or nodes i d).key
reached_at n g [] i d r h = absurd (omega arith)
reached_at n g (a ∷ nodes) zero d r h = r.0
reached_at n g (a ∷ nodes) (suc i) d r h = reached_at n g nodes i d r.1 (omega (arith, h))

-- a node that is given by its key and weight
module _ (nodes : List Node) (i : ℕ) (low : i < length nodes) (d : Node) (k : List ℤ) (w : ℕ) (key : k ≡ (get_or nodes i d).key) (weight : w ≡ (get_or nodes i d).weight) where
  pub is_node : node k w ≡ get_or nodes i (node k w)
  is_node = rw (key, weight) (get_or_default nodes i d (get_or nodes i d) low)
