-- Rows that count draws: one row for each number of subjects, with a cell for each sum.
use Rattle.std.specs.Prelude.{◌≡◌, ℕ, ℤ, pos, ◌+◌, ◌*◌, ◌+ℤ◌, ◌<◌, ◌≤◌, List, [], ◌∷◌}
use Rattle.std.specs.Prelude.{get_or, length, min}
use Rattle.std.specs.List.{sum}
use Rattle.weights.specs.Numbers.{absolute_sum, binomial}
use Rattle.weights.specs.declared.TheConstants.{MAX}
use Rattle.node_pool.specs.Nodes.{weighted}
use Rattle.count_arrays.specs.Rows.{row_nodes}
use Rattle.score_convolution.specs.Draws.{draw_sum}
use Rattle.score_convolution.specs.Subjects.{AreApart, Ascend, least}
use Rattle.score_convolution.specs.declared.rows.DrawRow.{DrawRow}

-- the number of a cell's key
abbrev pub number_of : List ℤ → ℤ
number_of k = get_or k 0 (pos 0)

-- what g says of the sums of a row's draws
abbrev pub row_draws : {K : Type 0} → (K → List ℕ) → (ℤ → ℕ) → ℕ → DrawRow K → ℕ
row_draws cells_of g stride row =
    let nodes = row_nodes row.lowest (pos stride) (cells_of row.tally) in
    weighted (λ k. g (number_of k)) nodes

-- a row's total is that of its cells, and within two limits
pub record IsDrawRow {K : Type 0} (cells_of : K → List ℕ) (limit : ℕ)
    (row : DrawRow K) : Type 0 where
  pub whole : row.total ≡ sum (cells_of row.tally)
  pub within : row.total ≤ limit
  pub fits : row.total ≤ MAX

-- what f says of rows, the first of which counts draws of n
abbrev pub rows_draws : {K : Type 0} → (K → List ℕ) → (ℕ → ℤ → ℕ) → ℕ → ℕ → List (DrawRow K) → ℕ
rows_draws cells_of f n stride [] = 0
rows_draws cells_of f n stride (row ∷ rows) =
    row_draws cells_of (f n) stride row + rows_draws cells_of f (n + 1) stride rows

-- f says nothing of more than so many
abbrev pub NoneAbove : ℕ → (ℕ → ℤ → ℕ) → Type 0
NoneAbove most f = (n : ℕ) (v : ℤ) → most < n → f n v ≡ 0

-- f, of a subject more with this score
abbrev pub with_one : ℤ → (ℕ → ℤ → ℕ) → ℕ → ℤ → ℕ
with_one score f n v = f (n + 1) (v +ℤ score)

-- what a row has of the draws of n: how many there are, the least sum, where the scores ascend, and
-- how many places at most
pub record IsRowOf {K : Type 0} (cells_of : K → List ℕ) (limit : ℕ) (scores : List ℤ) (n : ℕ)
    (row : DrawRow K) : Type 0 where
  pub row_is : IsDrawRow cells_of limit row
  pub total : row.total ≡ binomial (length scores) n
  pub lowest : row.lowest ≡ least n scores
  pub reach : length (cells_of row.tally) ≤ n * (2 * absolute_sum scores) + 1

-- rows of nobody, of one and so on, up to so many
pub record AreRows {K : Type 0} (cells_of : K → List ℕ) (limit most : ℕ) (scores : List ℤ)
    (rows : List (DrawRow K)) : Type 0 where
  pub long : length rows ≡ min most (length scores) + 1
  pub each : (n : ℕ) (d : DrawRow K) → n < length rows
      → IsRowOf cells_of limit scores n (get_or rows n d)

-- the rows of the draws of at most so many of the subjects with these scores
pub record AreDraws {K : Type 0} (cells_of : K → List ℕ) (limit most stride : ℕ) (scores : List ℤ)
    (rows : List (DrawRow K)) : Type 0 where
  pub rows_are : AreRows cells_of limit most scores rows
  pub told : (f : ℕ → ℤ → ℕ) → NoneAbove most f
      → rows_draws cells_of f 0 stride rows ≡ draw_sum f 0 (pos 0) scores

-- subjects by ascending score, whose sums lie strides apart and pass no limit
pub record AreSubjects (stride : ℕ) (scores : List ℤ) : Type 0 where
  pub some : 0 < stride
  pub apart : AreApart stride scores
  pub ascend : Ascend scores
  pub small : absolute_sum scores ≤ MAX
  pub near : 2 * length scores * absolute_sum scores ≤ MAX

-- the draws of at most so many of these are counts of this width
pub record AreCounted (limit most : ℕ) (scores : List ℤ) : Type 0 where
  pub within : (n : ℕ) → n ≤ most → binomial (length scores) n ≤ limit
  pub fits : (n : ℕ) → n ≤ most → binomial (length scores) n ≤ MAX
