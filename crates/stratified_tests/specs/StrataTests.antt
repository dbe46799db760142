-- The exact test of association in strata, each a table of two rows and two columns (Mantel and
-- Haenszel, Journal of the National Cancer Institute 22, 1959; Birch, Journal of the Royal
-- Statistical Society B 26, 1964). It is conditional on the sums of each table's rows and columns.
-- With given odds it has two tails alone, on one side each.
use Rattle.std.specs.Prelude.{ℕ, pos, ◌*◌, ◌/◌, List, [], ◌∷◌, map, nat_eq, Bool, true, false}
use Rattle.std.specs.Prelude.{Option, Some, None, if◌then◌else◌}
use Rattle.std.specs.List.{concat, sum_by}
use Rattle.weights.specs.declared.odds.Odds.{Odds}
use Rattle.weights.specs.declared.tails.Tail.{Tail}
use Rattle.weights.specs.declared.tails.Tail.TheVariants.{Less, Greater, Two}
use Rattle.weights.specs.Conditional.{ConditionalTest, by_distance, every_tail}
use Rattle.weights.specs.Numbers.{lcm}
use Rattle.weights.specs.Odds.{odds_weight}
use Rattle.strata_cells.specs.declared.stratum.Stratum.{Stratum}
use Rattle.strata_cells.specs.Strata.{first_cells, first_column, first_row, own_labels, size}
use Rattle.strata_cells.specs.Strata.{strata_labellings, strata_of}

-- the least common multiple of the sizes that are not 0, and 1 for none
abbrev pub multiple_of : List Stratum → ℕ
multiple_of [] = 1
multiple_of (s ∷ strata) =
    if nat_eq (size s) 0 then multiple_of strata else lcm (size s) (multiple_of strata)

-- a multiple of the mean of the first cells: with n of N subjects in the first row and c in the
-- first column, a first cell's mean is nc/N
abbrev pub centre_by : ℕ → List Stratum → ℕ
centre_by q strata = sum_by (λ s. q / size s * (first_row s * first_column s)) strata

-- what a labelling weighs with x in the first cells, of n subjects in the first rows: 1, or by the
-- odds where they are given
abbrev pub weight_by : Option Odds → ℕ → ℕ → ℕ
weight_by None n x = 1
weight_by (Some odds) n x = odds_weight odds n x

abbrev pub is_one_sided : Tail → Bool
is_one_sided Less = true
is_one_sided Greater = true
is_one_sided Two = false

-- the tails that the test has: with odds only those on one side
abbrev pub tails_with : Option Odds → Tail → Bool
tails_with None = every_tail
tails_with (Some odds) = is_one_sided

abbrev pub stratified_test : Option Odds → List Stratum → ConditionalTest
stratified_test odds strata = record {
  reference = strata_labellings strata;
  statistic = λ labels. pos (first_cells strata labels);
  observed = concat (map own_labels strata);
  weight = λ labels. weight_by odds (sum_by first_row strata) (first_cells strata labels);
  has_tail = tails_with odds;
  two_sided = by_distance (multiple_of strata) (pos (centre_by (multiple_of strata) strata));
  scale = 1;
  bound = multiple_of strata * sum_by size strata;
}

-- strata by their cells, four for each, and the odds, where they are given
pub record StrataData : Type 0 where
  pub cells : List ℕ
  pub odds : Option Odds

abbrev pub data_of : Option Odds → List ℕ → StrataData
data_of odds cells = record { cells = cells; odds = odds }

-- the test of strata
abbrev pub strata_test : StrataData → ConditionalTest
strata_test strata = stratified_test strata.odds (strata_of strata.cells)
