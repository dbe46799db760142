-- What the bodies of a table's weight keep and need.
use Rattle.std.specs.Prelude.{◌≡◌, ℕ, suc, ◌-◌, ◌*◌, ◌^◌, ◌<◌, ◌≤◌, ℤ, pos, List, length, map, drop, get_or, min, nat_abs, slice_index, unsigned_abs, true}
use Rattle.std.specs.List.{sum, Contains}
use Rattle.weights.specs.declared.TheConstants.{MAX}
use Rattle.networks.specs.declared.verdicts.Judge.{Judge}
use Rattle.weights.specs.Grouped.{choices, fits}
use Rattle.weights.specs.Labellings.{number_of_labellings}
use Rattle.networks.specs.Judged.{JudgeFits}
use Rattle.completion_bounds.specs.Fillings.{falling, greatest_weight, product_by}
use Rattle.label_network.specs.LabelSteps.{AreSizes, IsHeld}
use Rattle.room_network.specs.Numbers.{so_far}
use Rattle.label_network.specs.Meanings.{sizes_in}
use Rattle.row_products.specs.RowProducts.{IsRising}
use Rattle.fisher_test.specs.Weighing.{greatest_factor, least_factor}

-- the product so far
abbrev pub past_of : List ℤ → ℕ
past_of p = nat_abs (so_far p)

-- columns that fill the rows, of which there are few enough, and rules of weights
pub record IsWeighing (rows columns : List ℕ) (judge : Judge) : Type 0 where
  pub some : 1 ≤ length rows
  pub few : length rows ≤ 8
  pub level : sum columns ≡ sum rows
  pub units : sum rows < 2 ^ 64
  pub total_fits : number_of_labellings rows ≤ MAX
  pub rules_fit : (v : ℤ) → unsigned_abs v ≤ MAX → JudgeFits judge v

-- the products of the later columns' greatest weights, cut off at MAX, from the last stage back to
-- a column
pub record AreHighs (rows : ℕ) (columns : List ℕ) (from : ℕ) (highs : List ℕ) : Type 0 where
  pub long : length highs ≡ suc (length columns - from)
  pub each : (i : ℕ) → i < length highs
      → get_or highs i 0
      ≡ min (product_by (greatest_weight rows) (drop (length columns - i) columns)) MAX

-- what the measure keeps
pub record IsWeightMeasure (rows columns : List ℕ) (width falling_width : ℕ) (highs : List ℕ)
    (judge : Judge) : Type 0 where
  pub weighing : IsWeighing rows columns judge
  pub held : IsHeld width rows
  pub falling_held : IsHeld falling_width (falling rows)
  pub highs_are : AreHighs (length rows) columns 0 highs

-- rows with the greatest first, and columns with the least first
pub record AreOrdered (rows columns : List ℕ) : Type 0 where
  pub falls : falling rows ≡ rows
  pub rises : IsRising columns

-- rows whose subjects can be labelled in few enough ways
pub record AreRoomy (width : ℕ) (rows : List ℕ) : Type 0 where
  pub some : 1 ≤ length rows
  pub few : length rows ≤ 8
  pub units : sum rows < 2 ^ 64
  pub held : IsHeld width rows
  pub total_fits : number_of_labellings rows ≤ MAX

-- the partial is one number, the product so far; with what remains it is no more than all
-- labellings
pub record IsProduct (rows : List ℕ) (g : ℕ) (r : List ℕ) (p : List ℤ) : Type 0 where
  pub one : length p ≡ 1
  pub whole : so_far p ≡ pos (past_of p)
  pub some : 1 ≤ past_of p
  pub small : past_of p * number_of_labellings r ≤ number_of_labellings rows

-- the numbers of a key: sizes that are left of the rows for the later columns, and a product
pub record IsWeightKey (rows columns : List ℕ) (g : ℕ) (remaining partial : List ℤ) : Type 0 where
  pub stage : g ≤ length columns
  pub whole : remaining ≡ map pos (sizes_in remaining)
  pub level : sum (drop g columns) ≡ sum (sizes_in remaining)
  pub within : fits (sizes_in remaining) rows ≡ true
  pub product : IsProduct rows g (sizes_in remaining) partial

-- the sizes of such a key
pub record IsWeightRoom (rows columns : List ℕ) (g : ℕ) (remaining : List ℤ) : Type 0 where
  pub partial : List ℤ
  pub place : IsWeightKey rows columns g remaining partial

-- such a key before the last column, and a choice there
pub record IsWeightMove (rows columns : List ℕ) (g : ℕ) (remaining : List ℤ) (choice : List ℕ)
    (partial : List ℤ) : Type 0 where
  pub before : g < length columns
  pub place : IsWeightKey rows columns g remaining partial
  pub allowed : Contains (choices (slice_index columns g) (sizes_in remaining)) choice

-- a choice at the sizes of such a key
pub record IsWeightStep (rows columns : List ℕ) (g : ℕ) (remaining : List ℤ) (choice : List ℕ)
    : Type 0 where
  pub partial : List ℤ
  pub move : IsWeightMove rows columns g remaining choice partial

-- what is known of the sizes of such a key
pub record WeightSeat (rows columns : List ℕ) (width falling_width : ℕ) (highs : List ℕ) (g : ℕ)
    (remaining : List ℤ) : Type 0 where
  pub stage : g ≤ length columns
  pub highs_long : length columns - g < length highs
  pub few : length remaining ≤ 8
  pub sizes : AreSizes remaining
  pub small : sum (sizes_in remaining) < 2 ^ 64
  pub held : IsHeld width (sizes_in remaining)
  pub fits : number_of_labellings (sizes_in remaining) ≤ MAX
  pub roomy : AreRoomy falling_width (falling (sizes_in remaining))
  pub level : sum (sizes_in remaining) ≡ sum (drop g columns)
  pub least : least_factor columns g (sizes_in remaining) ≤ MAX
  pub greatest : let high = get_or highs (length columns - g) 0 in
      min (number_of_labellings (sizes_in remaining)) high
      ≡ greatest_factor columns g (sizes_in remaining)
