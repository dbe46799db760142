use Rattle.std.proofs.Common.{◌≡◌, ◌∙◌, ◌+◌, get_or, length, sym, arith}
use Rattle.weights.specs.declared.TheConstants.{MAX}
use Rattle.completion_bounds.specs.Fillings.{evenly_divided}
use Rattle.completion_bounds.proofs.Capped.{even-fewer, even-greater, multiplied-last}
use Rattle.completion_bounds.proofs.Factorials.{length-even, factorial_least}
use Rattle.row_products.specs.RowProducts.{factorial}
use Rattle.row_products.proofs.Cutting.{next-cut}
use Rattle.row_products.proofs.bounds.RowProducts.least_product.Goals as goal
use Rattle.row_products.proofs.bounds.RowProducts.least_product.Goals.{then-column-greater, else-column-greater}

pub loop-column-preserved : goal.loop-column-preserved
loop-column-preserved c =
    let cell : c.if-column-greater.cell ≡ get_or (evenly_divided c.args.row c.args.columns) c.loop-column.column 0 = elim c.if-column-greater.branch [
      | then-column-greater w ↦ w.cell-is ∙ sym (even-greater c.args.row c.args.columns c.loop-column.column w.if-column-greater.true)
      | else-column-greater w ↦ w.cell-is ∙ sym (even-fewer c.args.row c.args.columns c.loop-column.column w.if-column-greater.false c.loop-column-test.true)
    ] in
    let long : length (evenly_divided c.args.row c.args.columns) ≡ c.args.columns = length-even c.args.row c.args.columns (omega (arith, c.requires)) in
    rw (c.cut_times-product.ensures, c.factorial.ensures, cell) (next-cut factorial factorial_least (evenly_divided c.args.row c.args.columns) c.loop-column.column c.loop-column.product (omega (arith, long, c.loop-column-test.true)) c.loop-column.invariant)

pub returns : goal.returns
returns c =
    let long : length (evenly_divided c.args.row c.args.columns) ≡ c.args.columns = length-even c.args.row c.args.columns (omega (arith, c.requires)) in
    multiplied-last factorial factorial_least (evenly_divided c.args.row c.args.columns) (MAX + 1) c.loop-column.column c.loop-column.product (omega (arith, long, c.loop-column-test.false)) c.loop-column.invariant
