-- Words for the bodies of packed networks.
use Rattle.std.specs.Prelude.{◌≡◌, ℕ, ◌+◌, ◌-◌, ◌^◌, ◌≤◌, ℤ, List, length}
use Rattle.std.specs.List.{AllByRecursion}
use Rattle.weights.specs.declared.TheConstants.{MAX}
use Rattle.networks.specs.Network.{Network, IsReached}
use Rattle.room_network.specs.Meanings.{Meaning}
use Rattle.room_network.specs.Plans.{Plan}
use Rattle.room_network.specs.RoomNetworks.{room_network}
use Rattle.symmetry_reduction.specs.OrderSteps.{IsReduced}
use Rattle.symmetry_reduction.specs.ReducedNetworks.{reduced_network}
use Rattle.symmetry_reduction.specs.declared.orders.Order.{Order}
use Rattle.packed_keys.specs.PackedGroups.{AddsSteps}
use Rattle.packed_keys.specs.PackedKeys.{IsDigit, MayBePacked}

-- digits of so many bits that one number holds
pub record AreDigits (bits : ℕ) (partial : List ℤ) : Type 0 where
  pub each : AllByRecursion (IsDigit (2 ^ bits)) partial
  pub fits : (2 ^ bits) ^ length partial ≤ MAX + 1
  pub narrow : bits ≤ 63

pub record IsPacked (w bits slots : ℕ) (n : Network) : Type 0 where
  pub slots_are : slots ≡ n.width - w
  pub may : MayBePacked w bits n
  pub long : (g : ℕ) (key : List ℤ) → IsReached n g key → length key ≡ n.width

-- groups of these sizes in order, with steps that add, and their sums in one number of digits of so
-- many bits
pub record IsPackedGroups (plan : Plan) (m : Meaning) (sizes : List ℕ) (order : Order)
    (bits : ℕ) : Type 0 where
  pub rooms : Plan
  pub ordered : IsReduced rooms plan m sizes order
  pub may : MayBePacked m.floor.width bits
      (reduced_network order sizes (room_network m plan.weight))
  pub adds : AddsSteps order m
