use Rattle.std.proofs.Common.{get_or, take, length, rules, ap, ◌∙◌, arith}
use Rattle.weights.proofs.Sized.{length-counts_of}
use Rattle.weights.specs.Grouped.{columns_of}
use Rattle.table_sums.proofs.ColumnSums.{multiplied-first, none-of, read, weight-last, weight-next}
use Rattle.table_sums.proofs.sums.labelled_weight.Goals as goal

pub loop-column-init : goal.loop-column-init
loop-column-init c = record { room = search rules; reading = record { level = c.requires.whole.level; few = c.requires.whole.few }; weights = multiplied-first _ }

pub read_labels-later-requires : goal.read_labels-later-requires
read_labels-later-requires c = (read c.loop-column.invariant.reading c.loop-column-test.true).within

pub ways_of-weight-requires-clause-small : goal.ways_of-weight-requires-clause-small
ways_of-weight-requires-clause-small c = rw (c.read_labels-later.ensures.counts, c.loop-column.invariant.room) (omega (arith, (read c.loop-column.invariant.reading c.loop-column-test.true).few))

pub ways_of-weight-requires-clause-fits : goal.ways_of-weight-requires-clause-fits
ways_of-weight-requires-clause-fits c = rw (c.read_labels-later.ensures.counts, c.loop-column.invariant.room) (omega (arith, (weight-next (read c.loop-column.invariant.reading c.loop-column-test.true).split c.loop-column.invariant.weights).factor_fits, c.requires.fits))

pub overflow_mul-weight : goal.overflow_mul-weight
overflow_mul-weight c = rw (c.ways_of-weight.ensures, c.read_labels-later.ensures.counts, c.loop-column.invariant.room) (omega (arith, (weight-next (read c.loop-column.invariant.reading c.loop-column-test.true).split c.loop-column.invariant.weights).fits, c.requires.fits))

pub loop-column-preserved : goal.loop-column-preserved
loop-column-preserved c = record {
  room = ap length c.read_labels-later.ensures.counts ∙ length-counts_of (length c.loop-column.counts) (take (get_or c.args.columns.now c.loop-column.column-index 0) c.loop-column.later.now) ∙ c.loop-column.invariant.room;
  reading = rw c.read_labels-later.ensures.rest (read c.loop-column.invariant.reading c.loop-column-test.true).next;
  weights = rw (c.ways_of-weight.ensures, c.read_labels-later.ensures.counts, c.loop-column.invariant.room, c.read_labels-later.ensures.rest) (weight-next (read c.loop-column.invariant.reading c.loop-column-test.true).split c.loop-column.invariant.weights).next;
}

pub returns : goal.returns
returns c = weight-last (ap (λ cs. columns_of c.args.rows cs c.loop-column.later.now) (none-of c.args.columns.now c.loop-column.column-index c.loop-column-test.false)) c.loop-column.invariant.weights
