-- Networks in whose keys groups of equal size are in order.
use Rattle.std.specs.Prelude.{◌≡◌, ℕ, ◌+◌, ◌≤◌, ℤ, List, length}
use Rattle.networks.specs.Judged.{HasIntervals}
use Rattle.networks.specs.Mapped.{mapped}
use Rattle.networks.specs.Network.{Network, IsReached}
use Rattle.networks.specs.Symmetries.{IsSymmetry}
use Rattle.networks.specs.declared.verdicts.Judge.{Judge}
use Rattle.room_network.specs.Meanings.{Meaning}
use Rattle.room_network.specs.Plans.{Plan}
use Rattle.room_network.specs.RoomNetworks.{IsHoused}
use Rattle.symmetry_reduction.specs.OrderedGroups.{IsExchange, groups_in_order}
use Rattle.symmetry_reduction.specs.declared.orders.Order.{Order}

-- the network with the groups of each key in order
abbrev pub reduced_network : Order → List ℕ → Network → Network
reduced_network order sizes n = mapped n.width (groups_in_order order sizes) (λ key. key) n

-- The groups of a network's keys may be put in order: a key has what remains of each, and then the
-- sum of each; and a key whose neighbours of equal size change places is reached too, with the same
-- sums over its arcs, the same value and the same interval.
pub record MayBeReduced (sizes : List ℕ) (n : Network) (judge : Judge) : Type 0 where
  pub few : length sizes ≤ 8
  pub wide : n.width ≡ length sizes + length sizes
  pub symmetry : IsSymmetry n (IsExchange sizes)
  pub intervals : HasIntervals n judge
  pub low : (g : ℕ) (key other : List ℤ) → IsReached n g key → IsExchange sizes key other
      → intervals.low g other ≡ intervals.low g key
  pub high : (g : ℕ) (key other : List ℤ) → IsReached n g key → IsExchange sizes key other
      → intervals.high g other ≡ intervals.high g key

-- Rooms like those of a network of a plan and a measure, whose numbers are what remains of groups.
pub record AreItsRooms (rooms plan : Plan) (m : Meaning) (sizes : List ℕ) : Type 0 where
  pub weights : rooms.weight ≡ plan.weight
  pub housed : IsHoused rooms m
  pub width : m.floor.width ≡ length sizes
  pub small_steps : m.step_width ≤ 16
