use Rattle.std.proofs.Common.{◌*◌, ◌/◌, refl, arith}
use Rattle.std.proofs.Math.Nat.{mul-le-mul_left}
use Rattle.std.proofs.lemmas.List.Elements.{recursion_from_All}
use Rattle.strata_cells.specs.Strata.{first_column, first_row, size}
use Rattle.strata_cells.specs.StrataLimits.{IsSmall}
use Rattle.strata_cells.proofs.StrataSums.{at-most, small-at}
use Rattle.stratified_tests.proofs.FittingStrata.{centre-within}
use Rattle.strata_cells.proofs.StrataSums.{sum-first, sum-next, sum-room, sum-whole}
use Rattle.stratified_tests.proofs.sums.centre_by.Goals as goal

pub loop-stratum-init : goal.loop-stratum-init
loop-stratum-init c = sum-first (λ s. c.args.multiple / size s * (first_row s * first_column s)) c.args.strata.now

pub centre_of-centre-requires-clause-small : goal.centre_of-centre-requires-clause-small
centre_of-centre-requires-clause-small c = small-at c.args.strata.now c.loop-stratum.stratum-index (recursion_from_All IsSmall c.args.strata.now c.requires.small)

pub centre_of-centre-requires-clause-fits : goal.centre_of-centre-requires-clause-fits
centre_of-centre-requires-clause-fits c =
    let one = at-most size refl c.args.strata.now c.loop-stratum.stratum-index in
    omega (arith, mul-le-mul_left c.args.multiple one, c.requires.fits)

pub overflow_add-centre : goal.overflow_add-centre
overflow_add-centre c =
    omega (arith, c.centre_of-centre.ensures, sum-room (λ s. c.args.multiple / size s * (first_row s * first_column s)) c.args.strata.now c.loop-stratum.stratum-index c.loop-stratum.centre c.loop-stratum-test.true c.loop-stratum.invariant, centre-within c.args.multiple c.args.strata.now, c.requires.fits)

pub loop-stratum-preserved : goal.loop-stratum-preserved
loop-stratum-preserved c = rw c.centre_of-centre.ensures (sum-next (λ s. c.args.multiple / size s * (first_row s * first_column s)) c.args.strata.now c.loop-stratum.stratum-index c.loop-stratum.centre c.loop-stratum-test.true c.loop-stratum.invariant)

pub returns : goal.returns
returns c = sum-whole (λ s. c.args.multiple / size s * (first_row s * first_column s)) c.args.strata.now c.loop-stratum.stratum-index c.loop-stratum.centre (omega (arith, c.loop-stratum-test.false)) c.loop-stratum.invariant
