use Rattle.std.proofs.Common.{◌≡◌, ◌-◌, arith}
use Rattle.weights.specs.Numbers.{binomial}
use Rattle.strata_cells.specs.Strata.{first_column, first_row, size}
use Rattle.strata_cells.proofs.FirstCells.{AreWays, are-ways, left-within, right-within}
use Rattle.strata_cells.proofs.cells.cell_weight.Goals as goal

pub returns-in_err-chosen : goal.returns-in_err-chosen
returns-in_err-chosen c =
    let s = c.args.stratum in
    let ways : AreWays s c.args.cell = are-ways s c.args.cell c.requires.least c.requires.greatest in
    let first = left-within (binomial (first_column s) c.args.cell) (binomial (size s - first_column s) (first_row s - c.args.cell)) ways.others in
    rw c.from_residual.ensures (λ whole. c.in_err-chosen.ensures (rw c.first_column-column.ensures (omega (arith, first, whole))))

pub returns-in_err-others : goal.returns-in_err-others
returns-in_err-others c =
    let s = c.args.stratum in
    let ways : AreWays s c.args.cell = are-ways s c.args.cell c.requires.least c.requires.greatest in
    let second = right-within (binomial (first_column s) c.args.cell) (binomial (size s - first_column s) (first_row s - c.args.cell)) ways.column in
    rw c.from_residual-in_err-others.ensures (λ whole. c.in_err-others.ensures (rw (c.first_column-column.ensures, c.size.ensures, c.first_row.ensures) (omega (arith, second, whole))))

pub returns : goal.returns
returns c =
    let s = c.args.stratum in
    let chosen : c.in_ok-chosen.chosen ≡ binomial (first_column s) c.args.cell = rw c.first_column-column.ensures at c.in_ok-chosen.ensures.1 in
    let others : c.in_ok-others.others ≡ binomial (size s - first_column s) (first_row s - c.args.cell) = rw (c.first_column-column.ensures, c.size.ensures, c.first_row.ensures) at c.in_ok-others.ensures.1 in
    rw (chosen, others) at c.bounded_product.ensures
