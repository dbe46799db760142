use Rattle.std.proofs.Common.{◌≡◌, length, take, drop, ◌-◌, ◌∙◌, ap, arith}
use Rattle.std.specs.Prelude.{min}
use Rattle.std.proofs.lemmas.List.{take_rest}
use Rattle.strata_cells.specs.Strata.{cells_of, size, stratum_at}
use Rattle.zelen_test.proofs.Rarities.{next-labels, weigh-first, member-cells}
use Rattle.zelen_test.proofs.cell_weights.labels_weight.Goals as goal

pub loop-stratum-init : goal.loop-stratum-init
loop-stratum-init c = weigh-first c.args.strata.now (cells_of c.args.strata.now c.args.labels.now) (member-cells c.args.strata.now c.args.labels.now c.requires.member)

pub weight_of-product-requires-clause-fits : goal.weight_of-product-requires-clause-fits
weight_of-product-requires-clause-fits c = rw c.stratum_cell.ensures (omega (arith, (next-labels c.loop-stratum.later.now c.loop-stratum-test.true c.loop-stratum.invariant).weight, c.requires.fits))

pub overflow_mul-product : goal.overflow_mul-product
overflow_mul-product c = rw (c.weight_of-product.ensures, c.stratum_cell.ensures) (omega (arith, (next-labels c.loop-stratum.later.now c.loop-stratum-test.true c.loop-stratum.invariant).within, c.requires.fits))

pub loop-stratum-preserved : goal.loop-stratum-preserved
loop-stratum-preserved c =
    let later = c.loop-stratum.later.now in
    let s = stratum_at c.args.strata.now c.loop-stratum.stratum-index in
    let rest : take (length later - c.min.result) (drop c.min.result later) ≡ drop (min (length later) (size s)) later = take_rest later c.min.result ∙ ap (λ n. drop n later) (c.min.ensures ∙ ap (min (length later)) c.size.ensures) in
    rw (rest, c.weight_of-product.ensures, c.stratum_cell.ensures) (next-labels c.loop-stratum.later.now c.loop-stratum-test.true c.loop-stratum.invariant).next
