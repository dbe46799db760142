use Rattle.std.proofs.Common.{◌≡◌, ◌∙◌, ap, get_or, length, min, sym, arith}
use Rattle.std.specs.Prelude.{reverse}
use Rattle.std.proofs.lemmas.List.{get_or-reverse, length-reverse}
use Rattle.completion_bounds.specs.Fillings.{filled_in_turn, product_by}
use Rattle.row_products.specs.Factorials.{cut}
use Rattle.row_products.specs.RowProducts.{factorial}
use Rattle.row_products.proofs.Cutting.{filling-last, filling-next}
use Rattle.row_products.proofs.Orders.{reversed}
use Rattle.row_products.proofs.bounds.RowProducts.greatest_product.Goals as goal

pub loop-i-preserved : goal.loop-i-preserved
loop-i-preserved c =
    let long : length (reverse c.args.columns.now) ≡ length c.args.columns.now = length-reverse c.args.columns.now in
    let cell : c.min-cell.result ≡ min (get_or (reverse c.args.columns.now) c.loop-i.i 0) c.loop-i.left = c.min-cell.ensures ∙ ap (λ n. min n c.loop-i.left) (sym (get_or-reverse c.args.columns.now c.loop-i.i 0 c.loop-i-test.true)) in
    rw (c.cut_times-product.ensures, c.factorial.ensures) (filling-next _ c.loop-i.product c.loop-i.left (reverse c.args.columns.now) c.loop-i.i c.min-cell.result (omega (arith, long, c.loop-i-test.true)) cell c.loop-i.invariant)

pub returns : goal.returns
returns c =
    let long : length (reverse c.args.columns.now) ≡ length c.args.columns.now = length-reverse c.args.columns.now in
    filling-last _ c.loop-i.product c.loop-i.left (reverse c.args.columns.now) c.loop-i.i (omega (arith, long, c.loop-i-test.false)) c.loop-i.invariant
    ∙ ap (λ cs. cut (product_by factorial (filled_in_turn c.args.row cs))) (reversed c.args.columns.now c.requires)
