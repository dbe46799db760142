use Rattle.std.proofs.Common.{◌≡◌, true, length}
use Rattle.weights.specs.Grouped.{fits}
use Rattle.weights.specs.Labellings.{counts_of}
use Rattle.ordered_samples.proofs.PairFits.{points-most}
use Rattle.ordered_samples.proofs.Placing.{column-fits, placing-next}
use Rattle.ordered_samples.proofs.pair_points.place_columns.Goals as goal

pub place_column-requires-clause-column : goal.place_column-requires-clause-column
place_column-requires-clause-column c =
    rw c.front.ensures (column-fits c.args.pairs.now c.args.rows.now c.args.columns.now c.args.labels.now c.args.left.now c.loop-g.g c.loop-g.left c.loop-g.later.now c.loop-g.sum c.loop-g-test.true c.loop-g.invariant)

pub loop-g-preserved : goal.loop-g-preserved
loop-g-preserved c =
    let fitting : fits (counts_of (length c.args.rows.now) c.front.result.now) c.loop-g.left ≡ true = rw c.front.ensures (column-fits c.args.pairs.now c.args.rows.now c.args.columns.now c.args.labels.now c.args.left.now c.loop-g.g c.loop-g.left c.loop-g.later.now c.loop-g.sum c.loop-g-test.true c.loop-g.invariant) in
    placing-next c.args.pairs.now c.args.rows.now c.args.columns.now c.args.labels.now c.args.left.now c.loop-g.g c.loop-g.left c.loop-g.later.now c.loop-g.sum c.loop-g-test.true c.loop-g.invariant
    c.front.result.now c.back-later.result.now c.place_column.new.left c.place_column.result c.front.ensures c.back-later.ensures c.place_column.ensures.left c.place_column.ensures.points
    (rw c.place_column.ensures.points (points-most c.args.rows.now c.loop-g.left (counts_of (length c.args.rows.now) c.front.result.now) c.requires.few c.loop-g.invariant.within fitting c.args.pairs.now c.requires.pairs.few))
