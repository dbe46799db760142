-- Groups in order, with their sums in one number: a choice after which they stay as they stand only
-- adds to that number.
use Rattle.std.specs.Prelude.{◌≡◌, ℕ, ◌+◌, ◌^◌, ℤ, pos, Bool, true, if◌then◌else◌, List, [], ◌∷◌, ◌++◌, length}
use Rattle.networks.specs.Network.{Network, IsReached}
use Rattle.room_network.specs.Meanings.{IsMove, Meaning}
use Rattle.symmetry_reduction.specs.GroupSums.{AreHeld}
use Rattle.networks.specs.PartialSums.{plus}
use Rattle.symmetry_reduction.specs.OrderedGroups.{groups_in_order, stay}
use Rattle.symmetry_reduction.specs.ReducedNetworks.{reduced_network}
use Rattle.symmetry_reduction.specs.declared.orders.Order.{Order}
use Rattle.packed_keys.specs.PackedKeys.{packed}

-- A step has as many numbers as a partial, none of them negative, and a choice after which groups
-- stay as they stand adds them to the partial's, place by place.
pub record AddsSteps (order : Order) (m : Meaning) : Type 0 where
  pub steps : m.step_width ≡ m.slots
  pub wide : (g : ℕ) (room : List ℤ) (c : List ℕ) (p : List ℤ) → IsMove m g room c p
      → length (m.step g room c) ≡ m.step_width
  pub held : (g : ℕ) (room : List ℤ) (c : List ℕ) (p : List ℤ) → IsMove m g room c p
      → AreHeld (m.step g room c)
  pub moves : (g : ℕ) (room : List ℤ) (c : List ℕ) (p : List ℤ) → IsMove m g room c p
      → stay order (m.floor.next g room c) ≡ true
      → m.advance g room c p ≡ plus p (m.step g room c)

-- whether groups stay as they stand after a choice, 1 or 0, and, if so, what it adds to the one
-- number
abbrev pub shift : ℕ → Bool → List ℤ → List ℤ
shift base stays added = if stays then pos 1 ∷ packed base added else pos 0 ∷ pos 0 ∷ []

-- a step: this of the groups that a choice leaves, and then these and what is added to their sums
abbrev pub shifting_step : Order → ℕ → List ℤ → List ℤ → List ℤ
shifting_step order bits left added =
    shift (2 ^ bits) (stay order left) added ++ (left ++ added)

-- a key with groups of these sizes, which stand as in a key that some stage reaches once they are
-- in order
pub record AreOrderable (order : Order) (sizes : List ℕ) (n : Network) (key : List ℤ)
    : Type 0 where
  pub long : length key ≡ length sizes + length sizes
  pub stage : ℕ
  pub reached : IsReached (reduced_network order sizes n) stage (groups_in_order order sizes key)
