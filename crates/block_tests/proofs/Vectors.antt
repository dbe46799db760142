-- Worked rows of the definitions, by computation.
use Rattle.std.specs.Prelude.{◌≡◌, ℕ, List, pos, [], ◌∷◌, true, false}
use Rattle.std.proofs.Common.{refl}
use Rattle.weights.specs.Conditional.{numerator, observed_statistic, total}
use Rattle.weights.specs.Labellings.{counts_of}
use Rattle.weights.specs.declared.tails.Tail.TheVariants.{Less, Greater, Two}
use Rattle.midranks.specs.Midranks.{doubled_midrank, midranks_among, number_below, number_equal}
use Rattle.sample_reader.specs.CellLayouts.{BlockData}
use Rattle.block_tests.specs.BlockTests.{BlockTests, block_test, observed_cells}
use Rattle.block_tests.specs.EvenBlocks.{block_reflections, is_even}
use Rattle.block_tests.specs.declared.kinds.BlockKind.TheVariants.{Friedman, Page, Cochran}

-- two blocks of three treatments, in units of 1
two_blocks : BlockData
two_blocks = record { blocks = 2; treatments = 3; cells = pos 1 ∷ pos 2 ∷ pos 3 ∷ pos 1 ∷ pos 2 ∷ pos 3 ∷ [] }

friedman : BlockTests
friedman = record { kind = Friedman; blocks = two_blocks }

page : BlockTests
page = record { kind = Page; blocks = two_blocks }

friedman_statistic : observed_statistic (block_test friedman) ≡ pos 224
unfolding friedman two_blocks midranks_among doubled_midrank number_below number_equal
friedman_statistic = refl

friedman_greater : numerator (block_test friedman) Greater ≡ 6
unfolding friedman two_blocks midranks_among doubled_midrank number_below number_equal
friedman_greater = refl

friedman_total : total (block_test friedman) ≡ 36
unfolding friedman two_blocks midranks_among doubled_midrank number_below number_equal
friedman_total = refl

page_statistic : observed_statistic (block_test page) ≡ pos 56
unfolding page two_blocks midranks_among doubled_midrank number_below number_equal
page_statistic = refl

page_less : numerator (block_test page) Less ≡ 36
unfolding page two_blocks midranks_among doubled_midrank number_below number_equal
page_less = refl

page_greater : numerator (block_test page) Greater ≡ 1
unfolding page two_blocks midranks_among doubled_midrank number_below number_equal
page_greater = refl

page_two : numerator (block_test page) Two ≡ 2
unfolding page two_blocks midranks_among doubled_midrank number_below number_equal
page_two = refl

-- two blocks with a one in the first of three treatments
cochran : BlockTests
cochran = record { kind = Cochran; blocks = record { blocks = 2; treatments = 3; cells = pos 1 ∷ pos 0 ∷ pos 0 ∷ pos 1 ∷ pos 0 ∷ pos 0 ∷ [] } }

cochran_statistic : observed_statistic (block_test cochran) ≡ pos 4
unfolding cochran
cochran_statistic = refl

cochran_bound : (block_test cochran).bound ≡ 4
unfolding cochran
cochran_bound = refl

cochran_total : total (block_test cochran) ≡ 9
unfolding cochran
cochran_total = refl

cochran_greater : numerator (block_test cochran) Greater ≡ 3
unfolding cochran
cochran_greater = refl

-- a block with ties has its doubled midranks as cells
tied : BlockTests
tied = record { kind = Friedman; blocks = record { blocks = 1; treatments = 3; cells = pos 7 ∷ pos 4 ∷ pos 7 ∷ [] } }

tied_cells : observed_cells tied ≡ 5 ∷ 2 ∷ 5 ∷ []
unfolding tied midranks_among doubled_midrank number_below number_equal
tied_cells = refl

-- and three arrangements, not six
tied_total : total (block_test tied) ≡ 3
unfolding tied midranks_among doubled_midrank number_below number_equal
tied_total = refl

-- ranks without ties are the same from both ends; those of which the greater two are tied are not
untied : List ℕ
untied = counts_of 7 (2 ∷ 4 ∷ 6 ∷ [])

untied_even : is_even untied ≡ true
unfolding untied
untied_even = refl

tied_even : is_even (counts_of 7 (2 ∷ 5 ∷ 5 ∷ [])) ≡ false
tied_even = refl

-- of two such blocks sums are reflected at 8 after the first one, and at 16 after the second
untied_reflections : block_reflections 3 (untied ∷ untied ∷ []) 0 ≡ 0 ∷ 0 ∷ 8 ∷ 0 ∷ 0 ∷ 16 ∷ []
unfolding untied
untied_reflections = refl

-- and from the second one on at 16 alone
late_reflections : block_reflections 3 (untied ∷ untied ∷ []) 1 ≡ 0 ∷ 0 ∷ 0 ∷ 0 ∷ 0 ∷ 16 ∷ []
unfolding untied
late_reflections = refl
