-- What is kept of one block, and of the cells of blocks while they are ranked.
use Rattle.std.specs.Prelude.{◌≡◌, ℕ, ◌*◌, ◌≤◌, ℤ, List, [], ◌∷◌, length}
use Rattle.std.specs.List.{All, sum, sum_by}
use Rattle.weights.specs.Labellings.{number_of_labellings}
use Rattle.weights.specs.declared.TheConstants.{MAX}
use Rattle.networks.specs.Distances.{correction, correction_limit, squared, sum_limit}
use Rattle.networks.specs.Judged.{JudgeFits}
use Rattle.networks.specs.declared.additive.CentredSquares.{CentredSquares}
use Rattle.networks.specs.declared.verdicts.Judge.{Judge}
use Rattle.record_reader.specs.declared.TheConstants.{MOST_ROWS}
use Rattle.rank_assignments.specs.BoundSteps.{IsSmall}
use Rattle.block_tests.specs.BlockNetworks.{first_arrangement}

-- a block of at most eight cells, which is known by their counts
pub record IsBlock (counts first : List ℕ) (number : ℕ) : Type 0 where
  pub first_is : first ≡ first_arrangement counts
  pub number_is : number ≡ number_of_labellings counts
  pub fits : number_of_labellings counts ≤ MAX
  pub few : sum counts ≤ 8

-- counts of the cells of k treatments, 2 to 8, each cell at most 16
pub record IsWhole (k : ℕ) (counts : List ℕ) : Type 0 where
  pub treatments : sum counts ≡ k
  pub few : length counts ≤ 17

-- how many rearrangements blocks have
abbrev pub ways_of : List (List ℕ) → ℕ
ways_of [] = 1
ways_of (counts ∷ blocks) = number_of_labellings counts * ways_of blocks

-- the sum of all their cells
abbrev pub cells_sum : List (List ℕ) → ℕ
cells_sum blocks = sum_by (λ counts. sum (first_arrangement counts)) blocks

-- Blocks of k treatments that have a lawful network: their rearrangements pass no limit, nor do the
-- numbers that the rule computes.
pub record AreStages (k : ℕ) (blocks : List (List ℕ)) (judge : Judge) : Type 0 where
  pub some : 1 ≤ k
  pub narrow : k ≤ 8
  pub few : length blocks ≤ MOST_ROWS
  pub whole : All (IsWhole k) blocks
  pub ways_fit : ways_of blocks ≤ MAX
  pub judge_fits : (v : ℤ) → IsSmall v → JudgeFits judge v

-- Squares of the sums of k treatments, told by their distances from a centre.
pub record AreSquares (k : ℕ) (blocks : List (List ℕ)) (s : CentredSquares) : Type 0 where
  pub bounded : squared (cells_sum blocks) ≤ s.bound
  pub within : k * squared s.centre ≤ 2 * (s.centre * cells_sum blocks)
  pub beside_is : s.beside ≡ correction k s.centre (cells_sum blocks)
  pub bound_fits : s.bound ≤ MAX
  pub centre_small : s.centre ≤ sum_limit
  pub beside_small : s.beside ≤ correction_limit
