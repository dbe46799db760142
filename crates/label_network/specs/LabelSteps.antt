-- Words for the bodies: the next choice, sizes in a room, and tables of binomials.
use Rattle.std.specs.Prelude.{◌≡◌, ℕ, ◌+◌, ◌-◌, ◌*◌, ◌^◌, ◌<◌, ◌≤◌, ℤ, pos, nat_abs, List, [], ◌∷◌, length, drop, get_or, min, slice_index, true}
use Rattle.std.specs.List.{sum}
use Rattle.weights.specs.Numbers.{binomial}
use Rattle.weights.specs.declared.TheConstants.{MAX}
use Rattle.weights.specs.Grouped.{choices, fits}
use Rattle.weights.specs.Labellings.{number_of_labellings}
use Rattle.networks.specs.Completions.{total_weight}
use Rattle.networks.specs.Network.{IsReached}
use Rattle.room_network.specs.Plans.{alone}
use Rattle.label_network.specs.ChoiceOrder.{later_choices}
use Rattle.label_network.specs.LabelRooms.{IsLabelled, label_plan}
use Rattle.label_network.specs.Meanings.{sizes_in}
use Rattle.label_network.specs.Measures.{AreMargins, AreReached, IsMeasure, Measured, measured_network, partial_of, remaining_of}

-- the first choice, which takes as little as it can from each row in turn
abbrev pub least : ℕ → List ℕ → List ℕ
least c [] = []
least c (r ∷ rs) = (c - sum rs) ∷ least (min c (sum rs)) rs

-- a number of a room that is a size
pub record IsSize (z : ℤ) : Type 0 where
  pub whole : z ≡ pos (nat_abs z)
  pub small : nat_abs z < 2 ^ 64

pub record AreSizes (zs : List ℤ) : Type 0 where
  pub each : (i : ℕ) → i < length zs → IsSize (get_or zs i (pos 0))

-- of each row its size, or what comes after it, is below a width
pub record IsHeld (width : ℕ) (rows : List ℕ) : Type 0 where
  pub each : (i : ℕ) → i < length rows → width ≤ get_or rows i 0 → sum (drop (i + 1) rows) < width

abbrev pub capped : ℕ → ℕ
capped n = min n MAX

-- the first `long` places are filled: row m has the ways to choose fewer than `width` of m, each
-- cut off at the greatest total
pub record AreBinomials (width long : ℕ) (table : List ℕ) : Type 0 where
  pub wide : 1 ≤ width
  pub long_is : length table ≡ long
  pub each : (m j : ℕ) → j < width → m * width + j < long
      → get_or table (m * width + j) 0 ≡ capped (binomial m j)

-- what rooms of labels keep
pub record AreLabels (columns rows : List ℕ) (width : ℕ) : Type 0 where
  pub sound : IsLabelled columns rows
  pub held : IsHeld width rows

-- What is known of a room that is reached: its sizes, and that their labellings pass no limit.
-- Where a column is still to come, they are enough for it, and the first choice is one.
pub record RoomSeat (columns rows : List ℕ) (width g : ℕ) (room : List ℤ) : Type 0 where
  pub long : length room ≡ length rows
  pub few : length room ≤ 8
  pub sizes : AreSizes room
  pub small : sum (sizes_in room) < 2 ^ 64
  pub held : IsHeld width (sizes_in room)
  pub fits : number_of_labellings (sizes_in room) ≤ MAX
  pub total : total_weight (alone (label_plan columns rows)) g room
      ≡ number_of_labellings (sizes_in room)
  pub enough : g < length columns → slice_index columns g ≤ sum (sizes_in room)
  pub first : g < length columns
      → choices (slice_index columns g) (sizes_in room)
      ≡ least (slice_index columns g) (sizes_in room)
      ∷ later_choices (slice_index columns g) (sizes_in room)
      (least (slice_index columns g) (sizes_in room))

-- and of a choice there
pub record ChoiceSeat (columns : List ℕ) (width g : ℕ) (room : List ℤ) (c : List ℕ)
    : Type 0 where
  pub whole : slice_index columns g ≡ sum c
  pub fitting : fits c (sizes_in room) ≡ true
  pub held : IsHeld width c
  pub small : number_of_labellings c ≤ MAX

-- what the network of a measure keeps
pub record IsSeated (m : Measured) (columns rows : List ℕ) : Type 0 where
  pub margins : AreMargins m columns rows
  pub sound : IsMeasure m

-- what is known of the two parts of a key that is reached
pub record AreParts (m : Measured) (columns rows : List ℕ) (g : ℕ) (k r p : List ℤ) : Type 0 where
  pub remaining_is : r ≡ remaining_of m k
  pub partial_is : p ≡ partial_of m k
  pub room : IsReached (alone (label_plan columns rows)) g r
  pub reached : AreReached m g r p
  pub total : total_weight (alone (label_plan columns rows)) g r
      ≡ total_weight (measured_network m) g k
