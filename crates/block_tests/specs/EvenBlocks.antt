-- Blocks that are the same from both ends, after which sums may be reflected.
use Rattle.std.specs.Prelude.{ℕ, List, length, reverse, slice_index, take, Bool, nat_eq, if◌then◌else◌}
use Rattle.std.specs.List.{list_all}
use Rattle.rank_assignments.specs.Reflections.{reflections_of}
use Rattle.rank_assignments.specs.Assignments.{all_assignments}
use Rattle.block_tests.specs.BlockNetworks.{first_arrangement}
use Rattle.block_tests.specs.BlockTests.{added}

-- numbers, each added to the one that stands as far from the other end
abbrev pub pair_sums : List ℕ → List ℕ
pair_sums numbers = added numbers (reverse numbers)

-- the least and the greatest number of a block, added
abbrev pub end_sum : List ℕ → ℕ
end_sum counts = slice_index (pair_sums (first_arrangement counts)) 0

-- A block is even where its numbers, ascending, are the same from both ends: each pair of them adds
-- to what the ends do.
abbrev pub is_even : List ℕ → Bool
is_even counts = list_all (nat_eq (end_sum counts)) (pair_sums (first_arrangement counts))

-- how many assignments the blocks before a stage have
abbrev pub assigned_before : List (List ℕ) → ℕ → ℕ
assigned_before blocks g = length (all_assignments (take g blocks))

-- The first assignment after which sums may be reflected, of blocks from a stage on: where they are
-- not all even there is none.
abbrev pub reflected_from : List (List ℕ) → ℕ → ℕ
reflected_from blocks g =
    assigned_before blocks (if list_all is_even blocks then g else length blocks)

-- the numbers at which sums are reflected, of each assignment of blocks
abbrev pub block_reflections : ℕ → List (List ℕ) → ℕ → List ℕ
block_reflections k blocks g = reflections_of (reflected_from blocks g) k (all_assignments blocks)
