use Rattle.std.specs.Prelude.{Some}
use Rattle.strata_cells.specs.Strata.{greatest_cell, least_cell}
use Rattle.stratified_tests.specs.StrataNetwork.{weighed_cell}
use Rattle.weights.proofs.RangeSums.{IsAdded}
use Rattle.stratified_tests.proofs.totals.weighed.Given as goal

abbrev pub invariant-loop-cell : goal.invariant-loop-cell
invariant-loop-cell l = IsAdded (weighed_cell (Some l.fn.odds) l.fn.stratum) (least_cell l.fn.stratum) (greatest_cell l.fn.stratum) l.cell l.all
