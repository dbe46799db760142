use Rattle.std.proofs.Common.{◌≤◌, ◌*◌, get_or, arith}
use Rattle.std.proofs.Math.Nat.{mul-le-mul}
use Rattle.std.proofs.lemmas.List.Sums.{sum_by_more}
use Rattle.networks.specs.Distances.{squared}
use Rattle.block_tests.proofs.sums.square_sum.Goals as goal

pub loop-sum-preserved : goal.loop-sum-preserved
loop-sum-preserved c =
    let more = sum_by_more squared c.args.sums.now c.loop-sum.sum-index 0 c.loop-sum-test.true in
    let small : get_or c.args.sums.now c.loop-sum.sum-index 0 ≤ 2550000 = c.requires.small c.loop-sum.sum-index 0 c.loop-sum-test.true in
    let square : get_or c.args.sums.now c.loop-sum.sum-index 0 * get_or c.args.sums.now c.loop-sum.sum-index 0 ≤ 2550000 * 2550000 = mul-le-mul small small in
    record { is = omega (arith, more, c.loop-sum.invariant.is); small = omega (arith, square, c.loop-sum.invariant.small) }
