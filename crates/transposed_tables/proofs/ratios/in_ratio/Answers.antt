use Rattle.std.proofs.Common.{◌≡◌, ◌*◌, ◌/◌, arith}
use Rattle.weights.proofs.Divisors.{quotient-positive}
use Rattle.transposed_tables.proofs.Reduced.{ratio-reduced, ratio-within}
use Rattle.transposed_tables.proofs.ratios.in_ratio.Goals as goal

pub nonzero_div-result : goal.nonzero_div-result
nonzero_div-result c = (quotient-positive c.gcd-common.result c.args.of c.requires.some c.gcd-common.ensures.1).0

pub nonzero_div-result-2 : goal.nonzero_div-result-2
nonzero_div-result-2 c = (quotient-positive c.gcd-common.result c.args.of c.requires.some c.gcd-common.ensures.1).0

pub nonzero_div-result-3 : goal.nonzero_div-result-3
nonzero_div-result-3 c = (quotient-positive c.gcd-common.result c.args.of c.requires.some c.gcd-common.ensures.1).1

pub overflow_mul-result : goal.overflow_mul-result
overflow_mul-result c =
    let same : (c.args.total / c.gcd-common.result) * (c.args.part / (c.args.of / c.gcd-common.result)) * c.args.of ≡ c.args.part * c.args.total = ratio-reduced c.args.total c.args.part c.args.of c.gcd-common.result c.requires.some c.gcd-common.ensures c.requires.whole in
    omega (arith, c.ranges.total.fits, ratio-within ((c.args.total / c.gcd-common.result) * (c.args.part / (c.args.of / c.gcd-common.result))) c.args.part c.args.total c.args.of c.requires.some c.requires.within same)

pub returns : goal.returns
returns c = ratio-reduced c.args.total c.args.part c.args.of c.gcd-common.result c.requires.some c.gcd-common.ensures c.requires.whole
