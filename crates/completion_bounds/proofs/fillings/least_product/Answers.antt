use Rattle.std.proofs.Common.{ℕ, ◌≡◌, ◌*◌, ◌≤◌, List, get_or, ap, sym, arith}
use Rattle.weights.specs.Labellings.{number_of_labellings}
use Rattle.weights.proofs.FirstLabel.{number_of_labellings-positive}
use Rattle.completion_bounds.specs.Fillings.{falling, filled_in_turn, least_weight}
use Rattle.completion_bounds.proofs.Capped.{multiplied-first, multiplied-next, multiplied-last, column-within}
use Rattle.completion_bounds.proofs.Factorials.{total-is}
use Rattle.completion_bounds.proofs.fillings.least_product.Goals as goal

each : (margins : List ℕ) (c : ℕ) → 1 ≤ least_weight margins c
each margins c = number_of_labellings-positive (filled_in_turn c (falling margins))

pub loop-column-init : goal.loop-column-init
loop-column-init c = multiplied-first (least_weight c.args.margins.now) (each c.args.margins.now) c.args.columns.now c.args.cap c.requires.some

pub times_filled_in_turn-product-requires-clause-room : goal.times_filled_in_turn-product-requires-clause-room
times_filled_in_turn-product-requires-clause-room c =
    omega (arith, c.requires.level, column-within c.args.columns.now c.loop-column.column-index c.loop-column-test.true, total-is c.args.columns.now)

pub loop-column-preserved : goal.loop-column-preserved
loop-column-preserved c =
    let column = get_or c.args.columns.now c.loop-column.column-index 0 in
    let same : c.loop-column.product * number_of_labellings (filled_in_turn column c.args.margins.now) ≡ c.loop-column.product * least_weight c.args.margins.now column = ap (λ sizes. c.loop-column.product * number_of_labellings (filled_in_turn column sizes)) (sym c.requires.falls) in
    rw (c.times_filled_in_turn-product.ensures, same) (multiplied-next (least_weight c.args.margins.now) (each c.args.margins.now) c.args.columns.now c.args.cap c.loop-column.column-index c.loop-column.product c.loop-column-test.true c.loop-column.invariant)

pub returns : goal.returns
returns c = multiplied-last (least_weight c.args.margins.now) (each c.args.margins.now) c.args.columns.now c.args.cap c.loop-column.column-index c.loop-column.product (omega (arith, c.loop-column-test.false)) c.loop-column.invariant
