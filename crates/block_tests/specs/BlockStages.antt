-- The networks of a test of blocks, under one type.
use Rattle.std.specs.Prelude.{◌≡◌, ℕ, ◌≤◌, ℤ, List, length}
use Rattle.networks.specs.GoesOn.{GoesOn}
use Rattle.networks.specs.Network.{Network, IsReached}
use Rattle.symmetry_reduction.specs.declared.orders.Order.{Order}
use Rattle.rank_assignments.specs.declared.assigned_sums.AssignedSums.{AssignedSums}
use Rattle.rank_assignments.specs.declared.assigned_sums.AssignmentRooms.{AssignmentRooms}
use Rattle.block_tests.specs.declared.block_stages.BlockStages.{BlockStages}
use Rattle.block_tests.specs.declared.block_stages.BlockStages.TheVariants.{Assigned, Squares, Page}
use Rattle.block_tests.specs.declared.page.PageBlocks.{PageBlocks}
use Rattle.block_tests.specs.declared.squares.SquareBlocks.{SquareBlocks}

-- what is said of the one that it is
abbrev pub of_kind :
    {X : Type 0} → ((AssignmentRooms × AssignedSums × List ℕ × Order) × ℕ → X)
    → (SquareBlocks → X) → (PageBlocks → X) → BlockStages → X
of_kind f g h (Assigned n) = f n
of_kind f g h (Squares n) = g n
of_kind f g h (Page n) = h n

-- which keys of a stage it takes
abbrev pub taken_of_kind :
    ((AssignmentRooms × AssignedSums × List ℕ × Order) × ℕ → ℕ → List ℤ → Type 0)
    → (SquareBlocks → ℕ → List ℤ → Type 0) → (PageBlocks → ℕ → List ℤ → Type 0)
    → BlockStages → ℕ → List ℤ → Type 0
taken_of_kind f g h (Assigned n) = f n
taken_of_kind f g h (Squares n) = g n
taken_of_kind f g h (Page n) = h n

-- sums, one for each of at most eight treatments, of which something more is true
pub record AreTreatmentSums (treatments : ℕ) (sums : List ℤ) (more : Type 0) : Type 0 where
  pub few : treatments ≤ 8
  pub long : length sums ≡ treatments
  pub holds : more

-- it goes on from the keys that n reaches at a stage, all of which it takes
pub record IsOnward (n : Network) (stage : ℕ) (q : Network) (at : ℕ) (takes : List ℤ → Type 0)
    (image : List ℤ → List ℤ) : Type 0 where
  pub goes_on : GoesOn n q stage at image
  pub taken : (key : List ℤ) → IsReached n stage key → takes key
