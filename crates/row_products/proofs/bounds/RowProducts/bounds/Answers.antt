use Rattle.std.proofs.Common.{length, rules, subst, sym, arith}
use Rattle.completion_bounds.specs.Fillings.{HoldsWeights}
use Rattle.row_products.specs.RowProducts.{greatest_product, least_product}
use Rattle.row_products.proofs.ByRows.{ends, found, greatest_some, holds, least_some}
use Rattle.row_products.proofs.Cutting.{cut-some, products_some}
use Rattle.row_products.proofs.bounds.RowProducts.bounds.Goals as goal

pub returns-then-is_empty-clause-bounds : goal.returns-then-is_empty-clause-bounds
returns-then-is_empty-clause-bounds c = ends c.args.rows.now c.args.columns.now (search (rules, c.is_empty.ensures, c.if-is_empty.true)) c.requires.level

pub returns-then-is_empty-clause-holds : goal.returns-then-is_empty-clause-holds
returns-then-is_empty-clause-holds c =
    let e = (returns-then-is_empty-clause-bounds c).1 in
    subst (λ b. HoldsWeights 1 c.args.rows.now c.args.columns.now b.least b.greatest) (sym e) (holds c.args.rows.now c.args.columns.now c.requires.level)

pub div_ceil-requires : goal.div_ceil-requires
div_ceil-requires c = omega (arith, c.greatest_over.ensures, cut-some _ (products_some (greatest_product c.args.columns.now) (greatest_some c.args.columns.now) c.args.rows.now))

pub nonzero_div-result : goal.nonzero_div-result
nonzero_div-result c = omega (arith, c.least_over.ensures, cut-some _ (products_some (least_product (length c.args.columns.now)) (least_some (length c.args.columns.now)) c.args.rows.now))

pub returns-clause-bounds : goal.returns-clause-bounds
returns-clause-bounds c = found c.args.rows.now c.args.columns.now c.of_all-whole.result c.greatest_over.result c.least_over.result c.of_all-whole.ensures (omega (arith, c.if-whole-gt-MAX.false)) c.greatest_over.ensures c.least_over.ensures _ c.div_ceil.ensures

pub returns-clause-holds : goal.returns-clause-holds
returns-clause-holds c =
    let e = (returns-clause-bounds c).1 in
    subst (λ b. HoldsWeights 1 c.args.rows.now c.args.columns.now b.least b.greatest) (sym e) (holds c.args.rows.now c.args.columns.now c.requires.level)
