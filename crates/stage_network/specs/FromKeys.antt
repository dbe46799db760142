-- Keys of a stage laid flat, with their weights, from which a sweep begins.
use Rattle.std.specs.Prelude.{◌≡◌, ℕ, ℤ, ◌*◌, ◌≤◌, List, length}
use Rattle.std.specs.List.{IsDistinct}
use Rattle.weights.specs.declared.TheConstants.{MAX}
use Rattle.node_pool.specs.Nodes.{key_eq, keys, weighted}
use Rattle.node_pool.specs.PoolSteps.{nodes_of}
use Rattle.networks.specs.declared.tail_sums.Kept.{Kept}
use Rattle.networks.specs.Network.{Network}
use Rattle.networks.specs.Completions.{total_weight}
use Rattle.stage_network.specs.NodeSteps.{AllHeavy, AllReached}
use Rattle.stage_network.specs.SweepSteps.{Course}

-- distinct keys that are reached at stage g, one weight of at least 1 for each; their completions
-- weigh at most MAX in all
pub record AreStarts (n : Network) (g : ℕ) (row : List ℤ) (weights : List ℕ) : Type 0 where
  pub within : g ≤ n.count
  pub long : length row ≡ length weights * n.width
  pub reached : AllReached n g (nodes_of n.width row weights)
  pub heavy : AllHeavy (nodes_of n.width row weights)
  pub distinct : IsDistinct key_eq (keys (nodes_of n.width row weights))
  pub fits : weighted (total_weight n g) (nodes_of n.width row weights) ≤ MAX

-- a sweep from these keys
abbrev pub course_from : Network → Kept → ℕ → List ℤ → List ℕ → Course
course_from n keep g row weights =
    record { keep = keep; stage = g; nodes = nodes_of n.width row weights }
