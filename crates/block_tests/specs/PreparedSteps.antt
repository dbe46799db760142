-- What is kept of a prepared test.
use Rattle.std.specs.Prelude.{◌≡◌, ℕ, ℤ, ◌*◌, ◌≤◌, List, length, map}
use Rattle.std.specs.List.{sum}
use Rattle.weights.specs.Conditional.{TwoSided, by_distance, by_rarity, distance, total}
use Rattle.weights.specs.declared.TheConstants.{MAX}
use Rattle.weights.specs.declared.rules.Rule.{Rule}
use Rattle.weights.specs.declared.rules.Rule.TheVariants.{AtMost, Far}
use Rattle.record_reader.specs.declared.TheConstants.{MOST_ROWS}
use Rattle.block_tests.specs.BlockTests.{BlockTests, TakesCells, block_counts, block_test}
use Rattle.block_tests.specs.declared.kinds.BlockKind.{BlockKind}

abbrev pub tests_of : BlockKind → ℕ → ℕ → List ℤ → BlockTests
tests_of kind blocks treatments cells = record {
  kind = kind;
  blocks = record { blocks = blocks; treatments = treatments; cells = cells };
}

-- the rule of both sides, where a statistic was observed and sides are measured from a centre
abbrev pub far_of : TwoSided → ℤ → Rule
far_of (by_distance q c) observed = Far q c (distance q c observed)
far_of (by_rarity rarity) observed = AtMost observed

-- blocks of a file whose cells the test takes
pub record AreBlocks (tests : BlockTests) : Type 0 where
  pub not_empty : 1 ≤ tests.blocks.blocks
  pub few_enough : tests.blocks.blocks ≤ MOST_ROWS
  pub at_least_two : 2 ≤ tests.blocks.treatments
  pub at_most_eight : tests.blocks.treatments ≤ 8
  pub one_each : length tests.blocks.cells ≡ tests.blocks.blocks * tests.blocks.treatments
  pub taken : TakesCells tests.kind tests.blocks.cells

-- that have a test whose total passes no limit
pub record AreFitting (tests : BlockTests) : Type 0 where
  pub blocks : AreBlocks tests
  pub total_fits : total (block_test tests) ≤ MAX

pub record IsPrepared
    (tests : BlockTests) (blocks : List (List ℕ)) (lengths : List ℕ) (bound : ℕ) : Type 0 where
  pub fitting : AreFitting tests
  pub blocks_are : blocks ≡ block_counts tests
  pub lengths_are : map sum (block_counts tests) ≡ lengths
  pub bound_is : bound ≡ (block_test tests).bound
