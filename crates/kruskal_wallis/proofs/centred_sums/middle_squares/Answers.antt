use Rattle.std.proofs.Common.{◌*◌, ◌≤◌, arith}
use Rattle.std.proofs.Math.Nat.{mul-le-mul_right}
use Rattle.kruskal_wallis.proofs.CentredSquares.{middle-part, middle-within}
use Rattle.kruskal_wallis.proofs.centred_sums.middle_squares.Goals as goal

pub overflow_mul-result-3 : goal.overflow_mul-result-3
overflow_mul-result-3 c =
    let square : 1 * (c.args.all * c.args.all) ≤ c.args.multiple * (c.args.all * c.args.all) = mul-le-mul_right (c.args.all * c.args.all) c.requires.some in
    omega (arith, middle-part c.args.middle c.args.all c.args.count c.requires.any c.requires.below, square, c.requires.fits)

pub overflow_mul-result-4 : goal.overflow_mul-result-4
overflow_mul-result-4 c = omega (arith, middle-within c.args.multiple c.args.middle c.args.all c.args.count c.requires.any c.requires.below, c.requires.fits)

pub returns-clause-within : goal.returns-clause-within
returns-clause-within c = middle-within c.args.multiple c.args.middle c.args.all c.args.count c.requires.any c.requires.below
