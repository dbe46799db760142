use Rattle.std.proofs.Common.{◌≡◌, ◌*◌, ◌+◌, get_or, drop, arith, drop_of_length-le}
use Rattle.weights.specs.Labellings.{number_of_labellings}
use Rattle.weights.proofs.Binomials.{next_factor_at}
use Rattle.label_network.proofs.BinomialTable.{last-factor}
use Rattle.label_network.proofs.ChoiceMoves.{drop-whole}
use Rattle.label_network.proofs.binomials.Binomials.by_table.Goals.{then-count-left, else-count-left}
use Rattle.label_network.proofs.binomials.Binomials.by_table.Goals as goal

pub loop-count-init : goal.loop-count-init
loop-count-init c = record { rest = c.requires.whole; product = omega arith }

pub choose-product-requires-clause-most : goal.choose-product-requires-clause-most
choose-product-requires-clause-most c = omega (arith, c.loop-count.invariant.rest, drop-whole c.loop-count.count-index c.args.counts.now, c.requires.whole, c.requires.most)

pub choose-product-requires-clause-fewer : goal.choose-product-requires-clause-fewer
choose-product-requires-clause-fewer c =
    (next_factor_at c.loop-count.product c.loop-count.left c.args.counts.now c.loop-count.count-index c.loop-count-test.true c.loop-count.invariant.rest c.loop-count.invariant.product).fewer

pub choose-product-requires-clause-held : goal.choose-product-requires-clause-held
choose-product-requires-clause-held c =
    λ h. omega (arith, (next_factor_at c.loop-count.product c.loop-count.left c.args.counts.now c.loop-count.count-index c.loop-count-test.true c.loop-count.invariant.rest c.loop-count.invariant.product).left_out, c.requires.held.each c.loop-count.count-index c.loop-count-test.true h)

pub choose-product-requires-clause-fits : goal.choose-product-requires-clause-fits
choose-product-requires-clause-fits c =
    omega (arith, (next_factor_at c.loop-count.product c.loop-count.left c.args.counts.now c.loop-count.count-index c.loop-count-test.true c.loop-count.invariant.rest c.loop-count.invariant.product).factor_within, c.requires.fits)

pub overflow_mul-product : goal.overflow_mul-product
overflow_mul-product c =
    rw c.choose-product.ensures (omega (arith, (next_factor_at c.loop-count.product c.loop-count.left c.args.counts.now c.loop-count.count-index c.loop-count-test.true c.loop-count.invariant.rest c.loop-count.invariant.product).product_within, c.requires.fits))

pub overflow_sub-left : goal.overflow_sub-left
overflow_sub-left c =
    (next_factor_at c.loop-count.product c.loop-count.left c.args.counts.now c.loop-count.count-index c.loop-count-test.true c.loop-count.invariant.rest c.loop-count.invariant.product).fewer

pub loop-count-preserved : goal.loop-count-preserved
loop-count-preserved c =
    let next = next_factor_at c.loop-count.product c.loop-count.left c.args.counts.now c.loop-count.count-index c.loop-count-test.true c.loop-count.invariant.rest c.loop-count.invariant.product in
    elim c.if-count-left.branch [
      | then-count-left w ↦ record { rest = next.left_out; product = rw (w.product-is, w.choose-product.ensures) next.product_of_all }
      | else-count-left w ↦ record { rest = next.left_out; product = rw w.product-is (last-factor c.loop-count.product c.loop-count.left (get_or c.args.counts.now c.loop-count.count-index 0) (number_of_labellings (drop (c.loop-count.count-index + 1) c.args.counts.now)) (number_of_labellings c.args.counts.now) w.if-count-left.false next.product_of_all) }
    ]

pub returns : goal.returns
returns c =
    let all : c.loop-count.product * 1 ≡ number_of_labellings c.args.counts.now = rw (drop_of_length-le c.args.counts.now c.loop-count-test.false) at c.loop-count.invariant.product in
    omega arith
