use Rattle.std.proofs.Common.{arith, length-append}
use Rattle.score_convolution.proofs.Widths.{counted-narrow, counted-wide}
use Rattle.score_convolution.proofs.tails.cell_sums.Goals as goal

pub sums_in-requires-clause-first : goal.sums_in-requires-clause-first
sums_in-requires-clause-first c = counted-narrow c.args.first.now c.args.drawn (omega (arith, c.if-first-le-FEW.true))

pub sums_in-requires-clause-second : goal.sums_in-requires-clause-second
sums_in-requires-clause-second c = counted-narrow c.args.second.now c.args.drawn (omega (arith, c.if-second-le-FEW.true))

pub sums_in-requires-else-first-le-FEW-clause-first : goal.sums_in-requires-else-first-le-FEW-clause-first
sums_in-requires-else-first-le-FEW-clause-first c = counted-wide c.args.first.now _ c.args.drawn (omega (arith, length-append c.args.first.now c.args.second.now)) c.requires.few c.requires.fits

pub sums_in-requires-else-first-le-FEW-clause-second : goal.sums_in-requires-else-first-le-FEW-clause-second
sums_in-requires-else-first-le-FEW-clause-second c = counted-wide c.args.second.now _ c.args.drawn (omega (arith, length-append c.args.first.now c.args.second.now)) c.requires.few c.requires.fits
