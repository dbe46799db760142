use Rattle.std.proofs.Common.{length, arith}
use Rattle.score_convolution.proofs.Widths.{counted-narrow, counted-wide}
use Rattle.score_convolution.proofs.tails.list_sums.Goals as goal

pub sums_in-requires-clause-first : goal.sums_in-requires-clause-first
sums_in-requires-clause-first c = counted-narrow c.split_at.result.0.now c.args.drawn (omega (arith, c.if-second-le-FEW.true, c.split_at.ensures.front_len, c.split_at.ensures.back_len, c.middle_of-cut.ensures))

pub sums_in-requires-clause-second : goal.sums_in-requires-clause-second
sums_in-requires-clause-second c = counted-narrow c.split_at.result.1.now c.args.drawn (omega (arith, c.if-second-le-FEW.true))

pub sums_in-requires-else-second-le-FEW-clause-first : goal.sums_in-requires-else-second-le-FEW-clause-first
sums_in-requires-else-second-le-FEW-clause-first c = counted-wide c.split_at.result.0.now (length c.args.sorted.now) c.args.drawn (omega (arith, c.split_at.ensures.front_len, c.middle_of-cut.ensures)) c.requires.few c.requires.fits

pub sums_in-requires-else-second-le-FEW-clause-second : goal.sums_in-requires-else-second-le-FEW-clause-second
sums_in-requires-else-second-le-FEW-clause-second c = counted-wide c.split_at.result.1.now (length c.args.sorted.now) c.args.drawn (omega (arith, c.split_at.ensures.back_len)) c.requires.few c.requires.fits
