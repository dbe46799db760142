use Rattle.std.proofs.Common.{refl, arith}
use Rattle.fisher_test.proofs.FilledColumns.{highs-next}
use Rattle.fisher_test.proofs.fillings.later_highs.Goals as goal

pub loop-j-preserved : goal.loop-j-preserved
loop-j-preserved c = rw c.in_ok-push-2.ensures.items (highs-next c.args.rows c.args.columns.now c.loop-j.j c.loop-j.product c.loop-j.highs.items _ c.times_evenly_divided-product.result (omega (arith, c.loop-j-test.true)) refl c.times_evenly_divided-product.ensures c.loop-j.invariant)
