-- The exact test that the odds ratio is the same in all strata, each a table of two rows and two
-- columns (Zelen, The analysis of several 2 x 2 contingency tables, Biometrika 58, 1971). It is
-- conditional on the sums of each table's rows and columns, and on the sum of the first cells:
-- given these, tables are as extreme as the observed ones where they are no more probable.
use Rattle.std.specs.Prelude.{ℕ, pos, List, length, map, Bool, true, false, nat_eq}
use Rattle.std.specs.Cmp.Lexicographic.{pointwise}
use Rattle.std.specs.List.{concat, count_by, filter}
use Rattle.weights.specs.Conditional.{ConditionalTest, by_rarity, unit_weight}
use Rattle.weights.specs.declared.tails.Tail.{Tail}
use Rattle.weights.specs.declared.tails.Tail.TheVariants.{Less, Greater, Two}
use Rattle.strata_cells.specs.declared.stratum.Stratum.{Stratum}
use Rattle.strata_cells.specs.Strata.{cells_of, first_cells, own_labels, strata_labellings, strata_of}

-- the labels of the strata as they are
abbrev pub observed_strata_labels : List Stratum → List ℕ
observed_strata_labels strata = concat (map own_labels strata)

-- whether the first cells that labels give add up to a sum
abbrev pub has_sum : List Stratum → ℕ → List ℕ → Bool
has_sum strata sum labels = nat_eq (first_cells strata labels) sum

-- the labellings of the strata whose first cells add up to what the observed ones add up to
abbrev pub observed_sum_labellings : List Stratum → List (List ℕ)
observed_sum_labellings strata =
    filter (has_sum strata (first_cells strata (observed_strata_labels strata)))
    (strata_labellings strata)

-- how many of them give the same first cell as a labelling in every stratum
abbrev pub rarity : List Stratum → List ℕ → ℕ
rarity strata labels =
    count_by (λ other. pointwise nat_eq (cells_of strata labels) (cells_of strata other))
    (observed_sum_labellings strata)

abbrev pub is_two : Tail → Bool
is_two Less = false
is_two Greater = false
is_two Two = true

-- what is printed is the probability of the tables: how many labellings give them, over all
abbrev pub observed_sum_test : List Stratum → ConditionalTest
observed_sum_test strata = record {
  reference = observed_sum_labellings strata;
  statistic = λ labels. pos (rarity strata labels);
  observed = observed_strata_labels strata;
  weight = unit_weight;
  has_tail = is_two;
  two_sided = by_rarity (rarity strata);
  scale = length (observed_sum_labellings strata);
  bound = 1;
}

-- the test of strata by their cells, four for each
abbrev pub zelen_test : List ℕ → ConditionalTest
zelen_test cells = observed_sum_test (strata_of cells)
