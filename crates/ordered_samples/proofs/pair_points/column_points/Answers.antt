use Rattle.std.proofs.Common.{arith}
use Rattle.ordered_samples.specs.declared.used_pairs.UsedPair.{UsedPair}
use Rattle.ordered_samples.proofs.PairFits.{column-few, points-most, points-next}
use Rattle.label_network.proofs.Rows.{get-within}
use Rattle.ordered_samples.proofs.pair_points.column_points.Goals as goal

abbrev none : UsedPair
none = record { lesser = 0; greater = 0 }

pub overflow_sub-placed : goal.overflow_sub-placed
overflow_sub-placed c = get-within c.args.rows.now c.args.left.now _ c.requires.left

pub points-sum-requires-clause-beside : goal.points-sum-requires-clause-beside
points-sum-requires-clause-beside c = column-few c.args.rows.now c.args.left.now c.args.column.now c.requires.few c.requires.left c.requires.column _

pub points-sum-requires-clause-greater : goal.points-sum-requires-clause-greater
points-sum-requires-clause-greater c = column-few c.args.rows.now c.args.left.now c.args.column.now c.requires.few c.requires.left c.requires.column _

pub overflow_add-sum : goal.overflow_add-sum
overflow_add-sum c =
    omega (
      arith,
      c.loop-i.invariant,
      c.points-sum.ensures,
      points-next c.args.pairs.now c.args.rows.now c.args.left.now c.args.column.now c.loop-i.i none c.loop-i-test.true,
      points-most c.args.rows.now c.args.left.now c.args.column.now c.requires.few c.requires.left c.requires.column c.args.pairs.now c.requires.pairs.few,
    )
