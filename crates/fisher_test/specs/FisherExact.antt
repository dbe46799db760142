-- Fisher's exact test of a table with two rows and two columns (Statistical Methods for Research
-- Workers), and of any table (Freeman and Halton, Biometrika 38, 1951): given the
-- sums of the rows and columns, a table is as extreme as the observed one where it is no more
-- probable.
use Rattle.std.specs.Prelude.{ℕ, pos, List, take, Bool, true, nat_eq, slice_index, if◌then◌else◌}
use Rattle.std.specs.List.{count_by}
use Rattle.weights.specs.declared.tails.Tail.{Tail}
use Rattle.weights.specs.declared.tails.Tail.TheVariants.{Less, Greater, Two}
use Rattle.weights.specs.Conditional.{ConditionalTest, by_rarity, unit_weight}
use Rattle.weights.specs.Grouped.{columns_of, labellings_giving}
use Rattle.weights.specs.Labellings.{labellings, number_of_labellings}
use Rattle.table_reader.specs.TableLayout.{TableData}
use Rattle.table_sums.specs.Tables.{column_sums, is_two_by_two, observed_labels, row_sums}

-- the weight of the table that a labelling gives: how many labellings give it
abbrev pub rarity : TableData → List ℕ → ℕ
rarity table labels =
    let columns = column_sums table in
    labellings_giving (columns_of table.rows columns labels) columns (row_sums table)

-- how many subjects of the first column are in the first row
abbrev pub first_cell : List ℕ → List ℕ → ℕ
first_cell columns labels = count_by (λ l. nat_eq l 0) (take (slice_index columns 0) labels)

-- a table of two rows and two columns has two sides
abbrev pub has_fisher_tail : Bool → Tail → Bool
has_fisher_tail two_by_two Less = two_by_two
has_fisher_tail two_by_two Greater = two_by_two
has_fisher_tail two_by_two Two = true

-- all ways to label the subjects with the rows' sizes, and the first cell where it tells the whole
-- table, else the table's weight over the number of labellings, its probability
abbrev pub fisher_test : TableData → ConditionalTest
fisher_test table = record {
  reference = labellings (row_sums table);
  statistic = λ labels. if is_two_by_two table then pos (first_cell (column_sums table) labels)
      else pos (rarity table labels);
  observed = observed_labels table;
  weight = unit_weight;
  has_tail = has_fisher_tail (is_two_by_two table);
  two_sided = by_rarity (rarity table);
  scale = if is_two_by_two table then 1 else number_of_labellings (row_sums table);
  bound = 1;
}
