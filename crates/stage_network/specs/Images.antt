-- Nodes at the images of keys.
use Rattle.std.specs.Prelude.{◌≡◌, ℕ, ℤ, List}
use Rattle.node_pool.specs.Nodes.{Node, weighted}
use Rattle.stage_network.specs.NodeSteps.{AllHeavy}

-- each sum over them is the sum over other nodes of what is said of their keys' images, and each
-- weighs at least 1
pub record AreImages (image : List ℤ → List ℤ) (nodes images : List Node) : Type 0 where
  pub sums : (f : List ℤ → ℕ) → weighted f images ≡ weighted (λ k. f (image k)) nodes
  pub heavy : AllHeavy images
