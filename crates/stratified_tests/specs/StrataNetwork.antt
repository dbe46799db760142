-- The network of a test of strata: a stage is a stratum, in the order of the file, and its choice
-- is the first cell.
use Rattle.std.specs.Prelude.{ℕ, pos, ◌+◌, ◌-◌, ◌*◌, List, [], ◌∷◌, length, map, slice_index}
use Rattle.std.specs.Prelude.{false, Option, Some, None}
use Rattle.std.specs.List.{range_with_len}
use Rattle.weights.specs.Odds.{odds_weight}
use Rattle.weights.specs.declared.odds.Odds.{Odds}
use Rattle.weights.specs.declared.tails.Tail.{Tail}
use Rattle.networks.specs.declared.additive.SumValue.TheVariants.{First}
use Rattle.networks.specs.Addends.{Addends, additive_network}
use Rattle.networks.specs.Judged.{judge_of}
use Rattle.networks.specs.Network.{Network}
use Rattle.networks.specs.declared.verdicts.Judge.{Judge}
use Rattle.strata_cells.specs.declared.stratum.Stratum.{Stratum}
use Rattle.strata_cells.specs.Strata.{cell_weight, first_row, greatest_cell, least_cell, strata_of}
use Rattle.strata_cells.specs.Strata.{stratum_at}
use Rattle.stratified_tests.specs.StrataTests.{StrataData, stratified_test}

-- what a first cell weighs: so many labellings, each by the odds where they are given
abbrev pub weighed_cell : Option Odds → Stratum → ℕ → ℕ
weighed_cell None s x = cell_weight s x
weighed_cell (Some odds) s x = cell_weight s x * odds_weight odds (first_row s) x

-- the choices of n cells from one on
abbrev pub cells_from : ℕ → ℕ → List (List ℕ)
cells_from least n = map (λ x. x ∷ []) (range_with_len least n)

-- those of a stratum
abbrev pub cell_choices : Stratum → List (List ℕ)
cell_choices s = cells_from (least_cell s) (greatest_cell s + 1 - least_cell s)

abbrev pub strata_addends : Option Odds → List Stratum → Judge → Addends
strata_addends odds strata judge = record {
  count = length strata;
  slots = 1;
  choice_width = 1;
  choices = λ g. cell_choices (stratum_at strata g);
  later = λ g c. let s = stratum_at strata g in
      cells_from (slice_index c 0 + 1) (greatest_cell s - slice_index c 0);
  weight = λ g c. weighed_cell odds (stratum_at strata g) (slice_index c 0);
  adds = λ g c. pos (slice_index c 0) ∷ [];
  least = λ g. pos (least_cell (stratum_at strata g));
  most = λ g. pos (greatest_cell (stratum_at strata g));
  sorted = false;
  value = First;
  judge = judge;
}

abbrev pub stratified_network : Option Odds → List Stratum → Tail → Network
stratified_network odds strata tail =
    additive_network (strata_addends odds strata (judge_of (stratified_test odds strata)))

abbrev pub strata_network : StrataData → Tail → Network
strata_network strata tail = stratified_network strata.odds (strata_of strata.cells) tail
