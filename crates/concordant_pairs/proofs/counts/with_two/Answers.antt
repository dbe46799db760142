use Rattle.std.proofs.Common.{◌+◌, arith}
use Rattle.weights.specs.declared.TheConstants.{MAX}
use Rattle.concordant_pairs.proofs.Counting.{fewer-mixed, nobody-yet}
use Rattle.concordant_pairs.proofs.counts.with_two.Goals as goal

pub loop-before-init : goal.loop-before-init
loop-before-init c = nobody-yet c.args.rest.now c.args.other c.args.counts.items c.requires.counts

pub with_subject-requires-clause-fits : goal.with_subject-requires-clause-fits
with_subject-requires-clause-fits c = fewer-mixed c.args.rest.now (c.loop-before.before + 1) c.args.group c.args.other MAX (omega (arith, c.loop-before-test.true)) c.requires.fits
