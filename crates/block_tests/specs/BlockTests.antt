-- Tests of treatments that are each given once in every block: Friedman's test of ranks within
-- blocks (Friedman, Journal of the American Statistical Association, 1937) and Page's test of
-- ordered treatments (Page, the same, 1963), both as in Hollander and Wolfe, Nonparametric
-- Statistical Methods, chapter 7, and Cochran's test of zeros and ones (Cochran, Biometrika, 1950).
-- All are conditional on each block's values, with their ties.
use Rattle.std.specs.Prelude.{ℕ, zero, suc, ℤ, pos, ◌+◌, ◌*◌, nat_abs, List, [], ◌∷◌, map}
use Rattle.std.specs.Prelude.{take, drop, replicate, Bool, true, false, All, ⊤}
use Rattle.std.specs.List.{concat, sum, sum_by}
use Rattle.weights.specs.Conditional.{ConditionalTest, TwoSided, by_distance, every_tail, one_sided, unit_weight}
use Rattle.weights.specs.Labellings.{counts_of}
use Rattle.enumerate.specs.Joined.{joined_labellings}
use Rattle.weights.specs.declared.tails.Tail.{Tail}
use Rattle.weights.specs.declared.tails.Tail.TheVariants.{Less, Greater, Two}
use Rattle.midranks.specs.Midranks.{doubled_midranks}
use Rattle.sample_reader.specs.CellLayouts.{BlockData}
use Rattle.sample_reader.specs.Values.{IsBinary}
use Rattle.networks.specs.Distances.{squared}
use Rattle.block_tests.specs.declared.kinds.BlockKind.{BlockKind}
use Rattle.block_tests.specs.declared.kinds.BlockKind.TheVariants.{Friedman, Page, Cochran}

-- blocks, and by which test their treatments are compared
pub record BlockTests : Type 0 where
  pub kind : BlockKind
  pub blocks : BlockData

abbrev pub blocks_for : BlockKind → BlockData → BlockTests
blocks_for kind blocks = record { kind = kind; blocks = blocks }

-- Cochran's test takes zeros and ones alone
abbrev pub TakesCells : BlockKind → List ℤ → Type 0
TakesCells Friedman values = ⊤
TakesCells Page values = ⊤
TakesCells Cochran values = All IsBinary values

-- ---- the cells of blocks

-- the first so many lists of k items each
abbrev pub cut : {X : Type 0} → ℕ → ℕ → List X → List (List X)
cut k zero items = []
cut k (suc n) items = take k items ∷ cut k n (drop k items)

-- the values of each block, one for each treatment
abbrev pub rows : BlockData → List (List ℤ)
rows blocks = cut blocks.treatments blocks.blocks blocks.cells

-- what counts of the values of a block: their doubled midranks within the block, or the zeros and
-- ones themselves
abbrev pub cells_in : BlockKind → List ℤ → List ℕ
cells_in Friedman values = doubled_midranks values
cells_in Page values = doubled_midranks values
cells_in Cochran values = map nat_abs values

-- with k treatments each cell is below this number
abbrev pub cells_below : BlockKind → ℕ → ℕ
cells_below Friedman k = 2 * k + 1
cells_below Page k = 2 * k + 1
cells_below Cochran k = 2

-- how often each number below it is a cell of the block
abbrev pub cell_counts : BlockKind → ℕ → List ℤ → List ℕ
cell_counts kind k values = counts_of (cells_below kind k) (cells_in kind values)

abbrev pub block_counts : BlockTests → List (List ℕ)
block_counts tests = map (cell_counts tests.kind tests.blocks.treatments) (rows tests.blocks)

-- An arrangement of a block gives each treatment a cell, and each cell as often as it occurs there;
-- so equal cells that change places are one arrangement. A rearrangement has one of each block,
-- joined.
abbrev pub rearrangements : List (List ℕ) → List (List ℕ)
rearrangements blocks = joined_labellings blocks

-- the cells as they are
abbrev pub observed_cells : BlockTests → List ℕ
observed_cells tests = concat (map (cells_in tests.kind) (rows tests.blocks))

-- ---- the sums of treatments

-- place by place
abbrev pub added : List ℕ → List ℕ → List ℕ
added [] ys = ys
added (x ∷ xs) [] = x ∷ xs
added (x ∷ xs) (y ∷ ys) = (x + y) ∷ added xs ys

-- the sum of the cells of each of k treatments over the blocks
abbrev pub treatment_sums : ℕ → List (List ℕ) → List ℕ
treatment_sums k [] = replicate k 0
treatment_sums k (cells ∷ blocks) = added cells (treatment_sums k blocks)

-- the squares of the treatments' sums, added
abbrev pub square_sum : List ℕ → ℕ
square_sum sums = sum_by squared sums

-- the treatments' sums, each times the treatment's number, from j on, added
abbrev pub page_sum : ℕ → List ℕ → ℕ
page_sum j [] = 0
page_sum j (s ∷ sums) = j * s + page_sum (j + 1) sums

abbrev pub measure : BlockKind → List ℕ → ℕ
measure Friedman sums = square_sum sums
measure Page sums = page_sum 1 sums
measure Cochran sums = square_sum sums

-- what is measured of a rearrangement of so many blocks of k treatments
abbrev pub block_statistic : BlockKind → ℕ → ℕ → List ℕ → ℤ
block_statistic kind n k cells = pos (measure kind (treatment_sums k (cut k n cells)))

-- ---- the tests

abbrev pub is_upper : Tail → Bool
is_upper Less = false
is_upper Greater = true
is_upper Two = false

abbrev pub has_tail : BlockKind → Tail → Bool
has_tail Friedman = is_upper
has_tail Page = every_tail
has_tail Cochran = is_upper

-- Page's sum has the mean n k (k + 1)^2 / 2 in doubled ranks; the others have one side
abbrev pub sides_of : BlockKind → ℕ → ℕ → TwoSided
sides_of Friedman n k = one_sided
sides_of Page n k = by_distance 2 (pos (n * k * squared (k + 1)))
sides_of Cochran n k = one_sided

-- doubled ranks have their squares over 4
abbrev pub block_scale : BlockKind → ℕ
block_scale Friedman = 4
block_scale Page = 2
block_scale Cochran = 1

-- of blocks with these cells
abbrev pub bound_of : BlockKind → ℕ → ℕ → List ℕ → ℕ
bound_of Friedman n k cells = squared (n * k * (k + 1))
bound_of Page n k cells = 2 * n * squared k * (k + 1)
bound_of Cochran n k cells = squared (sum cells)

abbrev pub block_test : BlockTests → ConditionalTest
block_test tests =
    let n = tests.blocks.blocks in
    let k = tests.blocks.treatments in
    record {
      reference = rearrangements (block_counts tests);
      statistic = block_statistic tests.kind n k;
      observed = observed_cells tests;
      weight = unit_weight;
      has_tail = has_tail tests.kind;
      two_sided = sides_of tests.kind n k;
      scale = block_scale tests.kind;
      bound = bound_of tests.kind n k (observed_cells tests);
    }
