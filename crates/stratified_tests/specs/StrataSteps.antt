-- What is kept of a prepared test, and of its network.
use Rattle.std.specs.Prelude.{◌≡◌, ℕ, pos, ◌*◌, ◌≤◌, List, [], ◌∷◌, length, map, Option, Some, None}
use Rattle.std.specs.List.{sum, sum_by}
use Rattle.weights.specs.Frames.{IsFrameOf}
use Rattle.weights.specs.Odds.{IsOdds}
use Rattle.weights.specs.declared.TheConstants.{MAX}
use Rattle.weights.specs.declared.odds.Odds.{Odds}
use Rattle.networks.specs.Judged.{JudgeFits}
use Rattle.networks.specs.declared.verdicts.Judge.{Judge}
use Rattle.record_reader.specs.declared.TheConstants.{MOST_ROWS}
use Rattle.strata_cells.specs.declared.stratum.Stratum.{Stratum}
use Rattle.strata_cells.specs.Strata.{cells_in, greatest_cell, least_cell, row_counts}
use Rattle.strata_cells.specs.StrataLimits.{AreSmall, labelled}
use Rattle.stratified_tests.specs.StrataTests.{stratified_test}
use Rattle.stratified_tests.specs.StrataNetwork.{weighed_cell}
use Rattle.stratified_tests.specs.declared.strata_test.MadeStrata.{MadeStrata}

-- odds, where they are given, are within their limits
pub record AreOdds (odds : Option Odds) : Type 0 where
  pub usable : (given : Odds) → odds ≡ Some given → IsOdds given

-- what a stratum's first cells weigh by odds
abbrev pub weighed : Odds → Stratum → ℕ
weighed odds s = sum_by (weighed_cell (Some odds) s) (cells_in s)

-- what the labellings of a stratum weigh, and those of all strata together
abbrev pub stratum_total : Option Odds → Stratum → ℕ
stratum_total None s = labelled s
stratum_total (Some odds) s = weighed odds s

abbrev pub strata_total : Option Odds → List Stratum → ℕ
strata_total odds [] = 1
strata_total odds (s ∷ strata) = stratum_total odds s * strata_total odds strata

-- strata and odds whose total and bound pass no limit
pub record AreFitting (odds : Option Odds) (strata : List Stratum) : Type 0 where
  pub odds_are : AreOdds odds
  pub small : AreSmall strata
  pub few : length strata ≤ MOST_ROWS
  pub total_fits : strata_total odds strata ≤ MAX
  pub bound_fits : (stratified_test odds strata).bound ≤ MAX

-- and what is made of them
pub record AreMade (odds : Option Odds) (strata : List Stratum) (made : MadeStrata) : Type 0 where
  pub tables : made.strata ≡ strata
  pub sizes_are : map sum (map row_counts strata) ≡ made.sizes
  pub frame : IsFrameOf (stratified_test odds strata) made.frame
  pub fitting : AreFitting odds strata

-- the sum of the greatest first cells
abbrev pub greatest_sum : List Stratum → ℕ
greatest_sum strata = sum_by greatest_cell strata

-- each stratum is small, and no number of their network passes a limit
pub record AreStages (odds : Option Odds) (strata : List Stratum) (judge : Judge) : Type 0 where
  pub odds_are : AreOdds odds
  pub small : AreSmall strata
  pub total_fits : strata_total odds strata ≤ MAX
  pub sums_fit : greatest_sum strata ≤ MAX
  pub low_fits : JudgeFits judge (pos (sum_by least_cell strata))
  pub high_fits : JudgeFits judge (pos (greatest_sum strata))
