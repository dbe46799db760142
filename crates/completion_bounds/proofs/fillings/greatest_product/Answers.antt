use Rattle.std.proofs.Common.{ℕ, ◌≤◌, arith}
use Rattle.weights.proofs.FirstLabel.{number_of_labellings-positive}
use Rattle.completion_bounds.specs.Fillings.{evenly_divided, greatest_weight}
use Rattle.completion_bounds.proofs.Capped.{multiplied-first, multiplied-next, multiplied-last}
use Rattle.completion_bounds.proofs.fillings.greatest_product.Goals as goal

each : (rows c : ℕ) → 1 ≤ greatest_weight rows c
each rows c = number_of_labellings-positive (evenly_divided c rows)

pub loop-column-init : goal.loop-column-init
loop-column-init c = multiplied-first (greatest_weight c.args.rows) (each c.args.rows) c.args.columns.now c.args.cap c.requires.some

pub loop-column-preserved : goal.loop-column-preserved
loop-column-preserved c = rw (c.times_evenly_divided-product.ensures) (multiplied-next (greatest_weight c.args.rows) (each c.args.rows) c.args.columns.now c.args.cap c.loop-column.column-index c.loop-column.product c.loop-column-test.true c.loop-column.invariant)

pub returns : goal.returns
returns c = multiplied-last (greatest_weight c.args.rows) (each c.args.rows) c.args.columns.now c.args.cap c.loop-column.column-index c.loop-column.product (omega (arith, c.loop-column-test.false)) c.loop-column.invariant
