-- The networks of the tests of blocks: a stage is a block, in the order of the file, and a choice
-- is an arrangement of its cells. For Friedman's and Cochran's tests a key has the treatments' sums
-- so far, ascending, since the order of the treatments changes no square. For Page's test a key is
-- what the earlier blocks add.
use Rattle.std.specs.Prelude.{ℕ, ◌+◌, ◌-◌, pos, List, [], ◌∷◌, length, map, reverse, true, false}
use Rattle.std.specs.Prelude.{slice_index, slice_index_or}
use Rattle.std.specs.List.{range_with_len}
use Rattle.weights.specs.Conditional.{ConditionalTest, distribution, one_sided, unit_weight}
use Rattle.weights.specs.Labellings.{labellings}
use Rattle.weights.specs.declared.lines.Line.{Line}
use Rattle.networks.specs.Judged.{judge_of}
use Rattle.networks.specs.declared.verdicts.Judge.{Judge}
use Rattle.weights.specs.declared.tails.Tail.{Tail}
use Rattle.enumerate.specs.Walk.{members_after}
use Rattle.networks.specs.Addends.{Addends, additive_network, from_zero}
use Rattle.networks.specs.Network.{Network}
use Rattle.networks.specs.declared.additive.CentredSquares.{CentredSquares}
use Rattle.networks.specs.declared.additive.SumValue.TheVariants.{First, Squares}
use Rattle.block_tests.specs.BlockTests.{BlockTests, block_counts, block_test, page_sum, is_upper}
use Rattle.block_tests.specs.declared.kinds.BlockKind.{BlockKind}
use Rattle.block_tests.specs.declared.kinds.BlockKind.TheVariants.{Friedman, Page, Cochran}

-- the counts of the cells of block g
abbrev pub block_at : List (List ℕ) → ℕ → List ℕ
block_at blocks g = slice_index_or blocks g []

-- the first arrangement, in which the cells ascend
abbrev pub first_arrangement : List ℕ → List ℕ
first_arrangement counts = slice_index_or (labellings counts) 0 []

abbrev pub least_block_cell : List ℕ → ℕ
least_block_cell counts = slice_index (first_arrangement counts) 0

abbrev pub greatest_block_cell : List ℕ → ℕ
greatest_block_cell counts =
    slice_index (first_arrangement counts) (length (first_arrangement counts) - 1)

-- ---- the sums of all treatments, and their squares

-- with the centre that distances are measured from
abbrev pub square_addends : CentredSquares → ℕ → List (List ℕ) → Judge → Addends
square_addends squares k blocks judge = record {
  count = length blocks;
  slots = k;
  choice_width = k;
  choices = λ g. labellings (block_at blocks g);
  later = λ g c. members_after c (labellings (block_at blocks g));
  weight = λ g c. 1;
  adds = λ g c. map pos c;
  least = λ g. pos (least_block_cell (block_at blocks g));
  most = λ g. pos (greatest_block_cell (block_at blocks g));
  sorted = true;
  value = Squares squares;
  judge = judge;
}

-- ---- Page's sum

-- a block adds least where its cells descend, and most where they ascend
abbrev pub page_addends : ℕ → List (List ℕ) → Judge → Addends
page_addends k blocks judge = record {
  count = length blocks;
  slots = 1;
  choice_width = k;
  choices = λ g. labellings (block_at blocks g);
  later = λ g c. members_after c (labellings (block_at blocks g));
  weight = λ g c. 1;
  adds = λ g c. pos (page_sum 1 c) ∷ [];
  least = λ g. pos (page_sum 1 (reverse (first_arrangement (block_at blocks g))));
  most = λ g. pos (page_sum 1 (first_arrangement (block_at blocks g)));
  sorted = false;
  value = First;
  judge = judge;
}

-- ---- what runs for Page's test: arrangements of a block that add the same are one choice

-- what the arrangements of one block add: its distribution is asked alone
abbrev pub arrangement_test : List ℕ → ConditionalTest
arrangement_test counts = record {
  reference = labellings counts;
  statistic = λ cells. pos (page_sum 1 cells);
  observed = first_arrangement counts;
  weight = unit_weight;
  has_tail = is_upper;
  two_sided = one_sided;
  scale = 1;
  bound = 0;
}

-- the sums that they add, ascending, each with the number of arrangements that add it
abbrev pub page_lines : List ℕ → List Line
page_lines counts = distribution (arrangement_test counts)

abbrev pub no_line : Line
no_line = record { value = pos 0; weight = 0 }

-- the line that a choice names by its place
abbrev pub line_of : List ℕ → List ℕ → Line
line_of counts choice = slice_index_or (page_lines counts) (slice_index choice 0) no_line

-- so many places from one on, each as a choice
abbrev pub places_from : ℕ → ℕ → List (List ℕ)
places_from i n = map (λ place. place ∷ []) (range_with_len i n)

abbrev pub line_addends : List (List ℕ) → Judge → Addends
line_addends blocks judge = record {
  count = length blocks;
  slots = 1;
  choice_width = 1;
  choices = λ g. places_from 0 (length (page_lines (block_at blocks g)));
  later = λ g c. places_from (slice_index c 0 + 1)
      (length (page_lines (block_at blocks g)) - (slice_index c 0 + 1));
  weight = λ g c. (line_of (block_at blocks g) c).weight;
  adds = λ g c. (line_of (block_at blocks g) c).value ∷ [];
  least = λ g. pos (page_sum 1 (reverse (first_arrangement (block_at blocks g))));
  most = λ g. pos (page_sum 1 (first_arrangement (block_at blocks g)));
  sorted = false;
  value = First;
  judge = judge;
}

-- ---- the networks

abbrev pub addends_of : BlockKind → ℕ → ℕ → List (List ℕ) → Judge → Addends
addends_of Friedman bound k = square_addends (from_zero bound) k
addends_of Page bound k = page_addends k
addends_of Cochran bound k = square_addends (from_zero bound) k

-- one for all tails, of the addends of a kind
abbrev pub network_by : (BlockKind → ℕ → ℕ → List (List ℕ) → Judge → Addends) → BlockTests → Network
network_by addends tests =
    let test = block_test tests in
    additive_network (addends tests.kind test.bound tests.blocks.treatments
    (block_counts tests) (judge_of test))

-- the network as it is written, whose open keys are counted
abbrev pub block_network : BlockTests → Tail → Network
block_network tests tail = network_by addends_of tests

abbrev pub running_addends : BlockKind → ℕ → ℕ → List (List ℕ) → Judge → Addends
running_addends Friedman bound k = square_addends (from_zero bound) k
running_addends Page bound k = line_addends
running_addends Cochran bound k = square_addends (from_zero bound) k

-- the network that runs: its keys are those that are written
abbrev pub running_network : BlockTests → Tail → Network
running_network tests tail = network_by running_addends tests
