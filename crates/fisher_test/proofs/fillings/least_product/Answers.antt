use Rattle.std.proofs.Common.{get_or, ◌∙◌, arith, drop_of_length-le}
use Rattle.table_sums.proofs.ColumnSums.{multiplied-first, multiplied-last}
use Rattle.fisher_test.proofs.FilledColumns.{column-fits, in-turn, least-fits, least-next}
use Rattle.fisher_test.proofs.fillings.least_product.Goals as goal

pub loop-column-init : goal.loop-column-init
loop-column-init c = multiplied-first _

pub weight_in_turn-product-requires-clause-room : goal.weight_in_turn-product-requires-clause-room
weight_in_turn-product-requires-clause-room c = column-fits c.args.rows.now c.args.columns.now c.loop-column.column-index c.requires.level c.loop-column-test.true

pub overflow_mul-product : goal.overflow_mul-product
overflow_mul-product c =
    rw (c.weight_in_turn-product.ensures ∙ in-turn c.args.rows.now (get_or c.args.columns.now c.loop-column.column-index 0) c.requires.falls)
    (omega (arith, (least-next c.args.rows.now c.args.columns.now c.loop-column.column-index c.loop-column-test.true c.loop-column.invariant).fits, least-fits c.args.rows.now c.args.columns.now c.requires.level c.requires.rows.total_fits))

pub loop-column-preserved : goal.loop-column-preserved
loop-column-preserved c = rw (c.weight_in_turn-product.ensures ∙ in-turn c.args.rows.now (get_or c.args.columns.now c.loop-column.column-index 0) c.requires.falls) (least-next c.args.rows.now c.args.columns.now c.loop-column.column-index c.loop-column-test.true c.loop-column.invariant).next

pub returns : goal.returns
returns c = multiplied-last (rw (drop_of_length-le c.args.columns.now {i = c.loop-column.column-index} c.loop-column-test.false) at c.loop-column.invariant)
