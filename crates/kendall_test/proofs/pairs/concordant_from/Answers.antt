use Rattle.std.proofs.Common.{arith}
use Rattle.kendall_test.proofs.PairLoops.{pairing-next}
use Rattle.kendall_test.proofs.pairs.concordant_from.Goals as goal

pub overflow_mul-pairs : goal.overflow_mul-pairs
overflow_mul-pairs c = omega (arith, (pairing-next c.loop-i.invariant.pairing (omega (arith, c.loop-i-test.true))).product_fits)

pub overflow_add-pairs : goal.overflow_add-pairs
overflow_add-pairs c = omega (arith, (pairing-next c.loop-i.invariant.pairing (omega (arith, c.loop-i-test.true))).pairs_fit)

pub overflow_add-greater : goal.overflow_add-greater
overflow_add-greater c = omega (arith, (pairing-next c.loop-i.invariant.pairing (omega (arith, c.loop-i-test.true))).greater_fits)
