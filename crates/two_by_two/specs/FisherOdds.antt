-- Fisher's exact test of a table with two rows and two columns and odds, its noncentral form
-- (Fisher, The Logic of Inductive Inference, Journal of the Royal Statistical Society 98, 1935):
-- where the odds are P/Q, a labelling whose first cell is x weighs P^x Q^(n - x), n being the
-- number of subjects of the first row.
use Rattle.std.specs.Prelude.{ℕ, List, Bool, true, false, slice_index}
use Rattle.weights.specs.declared.odds.Odds.{Odds}
use Rattle.weights.specs.declared.tails.Tail.{Tail}
use Rattle.weights.specs.declared.tails.Tail.TheVariants.{Less, Greater, Two}
use Rattle.weights.specs.Conditional.{ConditionalTest, one_sided}
use Rattle.table_reader.specs.TableLayout.{TableData}
use Rattle.table_sums.specs.Tables.{column_sums, row_sums}
use Rattle.weights.specs.Odds.{odds_weight}
use Rattle.fisher_test.specs.FisherExact.{first_cell, fisher_test}

-- A table with odds.
pub record WeightedTable : Type 0 where
  pub table : TableData
  pub odds : Odds

-- what a labelling of subjects in these columns by these rows weighs
abbrev pub labels_weight : Odds → List ℕ → List ℕ → List ℕ → ℕ
labels_weight odds columns rows labels =
    odds_weight odds (slice_index rows 0) (first_cell columns labels)

-- with odds there is no tail on both sides
abbrev pub has_odds_tail : Tail → Bool
has_odds_tail Less = true
has_odds_tail Greater = true
has_odds_tail Two = false

abbrev pub odds_test : WeightedTable → ConditionalTest
odds_test weighted = record (fisher_test weighted.table) {
  weight = labels_weight weighted.odds (column_sums weighted.table) (row_sums weighted.table);
  has_tail = has_odds_tail;
  two_sided = one_sided;
  scale = 1;
}
