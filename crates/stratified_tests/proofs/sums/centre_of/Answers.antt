use Rattle.std.proofs.Common.{◌≡◌, ◌*◌, ◌/◌, refl, arith}
use Rattle.strata_cells.specs.Strata.{first_column, first_row, size}
use Rattle.stratified_tests.proofs.FittingStrata.{mean-within}
use Rattle.stratified_tests.proofs.sums.centre_of.Goals as goal

pub overflow_mul-result-2 : goal.overflow_mul-result-2
overflow_mul-result-2 c =
    let s = c.args.stratum in
    let mean : c.args.multiple / c.size-size.result * (c.first_row.result * c.first_column.result) ≡ c.args.multiple / size s * (first_row s * first_column s) = rw (c.size-size.ensures, c.first_row.ensures, c.first_column.ensures) refl in
    omega (arith, mean, mean-within c.args.multiple s, c.requires.fits)
