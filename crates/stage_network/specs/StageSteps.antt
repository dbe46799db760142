-- How the nodes of a stage are kept: each room once, and of each node its partial and the number of
-- its room.
use Rattle.std.specs.Prelude.{◌≡◌, ℕ, ℤ, ◌*◌, ◌<◌, List, [], ◌∷◌, ◌++◌, length}
use Rattle.std.specs.List.{AllByRecursion}
use Rattle.node_pool.specs.Nodes.{Node, NodeRow, node}
use Rattle.node_pool.specs.TableSteps.{key_at}

-- how many numbers a room has, and a key; the nodes; how many rooms were named, and the last of
-- them
pub record Housed : Type 0 where
  pub room_width : ℕ
  pub width : ℕ
  pub nodes : List Node
  pub rooms : ℕ
  pub room : List ℤ

-- nodes with their rooms in front of their partials
abbrev pub whole_nodes : ℕ → List ℤ → List ℕ → List Node → List Node
whole_nodes width rooms [] partials = []
whole_nodes width rooms (h ∷ homes) [] = []
whole_nodes width rooms (h ∷ homes) (a ∷ partials) =
    node (key_at width rooms h ++ a.key) a.weight ∷ whole_nodes width rooms homes partials

-- a row of rooms, the numbers of the nodes' rooms, and their partials
pub record AreHoused (width : ℕ) (rooms : List ℤ) (count : ℕ)
    (homes : List ℕ) (partials : NodeRow) : Type 0 where
  pub long : length rooms ≡ count * width
  pub each : length homes ≡ length partials.nodes
  pub named : AllByRecursion (λ h. h < count) homes
