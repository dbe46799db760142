use Rattle.std.proofs.Common.{arith}
use Rattle.ordered_samples.specs.declared.used_pairs.UsedPair.{UsedPair}
use Rattle.ordered_samples.proofs.PairFits.{pairs-most, pairs-next}
use Rattle.ordered_samples.proofs.pair_points.subject_pairs.Goals as goal

abbrev none : UsedPair
none = record { lesser = 0; greater = 0 }

pub overflow_add-sum : goal.overflow_add-sum
overflow_add-sum c =
    omega (arith, c.loop-i.invariant, c.product-sum.ensures, pairs-next c.args.pairs.now c.args.sizes.now c.loop-i.i none c.loop-i-test.true, pairs-most c.args.pairs.now c.args.sizes.now c.requires.pairs.few c.requires.few)
