use Rattle.std.proofs.Common.{arith}
use Rattle.weights.specs.Odds.{odds_weight}
use Rattle.strata_cells.specs.Strata.{cell_weight, first_row}
use Rattle.strata_cells.proofs.FirstCells.{right-within, weight-some}
use Rattle.stratified_tests.proofs.OddsLaws.{weighed-least}
use Rattle.stratified_tests.proofs.odds.weighed_cell.Goals as goal

pub returns-in_err-ways : goal.returns-in_err-ways
returns-in_err-ways c =
    let more = weighed-least c.args.odds c.requires.odds c.args.stratum c.args.cell in
    rw c.from_residual.ensures (λ whole. c.in_err-ways.ensures (omega (arith, more, whole)))

pub returns-in_err-weight : goal.returns-in_err-weight
returns-in_err-weight c =
    let s = c.args.stratum in
    let o = c.in-Some.odds in
    let more = right-within (cell_weight s c.args.cell) (odds_weight o (first_row s) c.args.cell) (weight-some s c.args.cell c.requires.least c.requires.greatest) in
    rw (c.from_residual-in_err-weight.ensures, c.in-Some.is) (λ whole. c.in_err-weight.ensures (rw c.first_row.ensures (omega (arith, more, whole))))
