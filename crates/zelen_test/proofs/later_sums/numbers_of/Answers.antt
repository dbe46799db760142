use Rattle.std.proofs.Common.{arith}
use Rattle.zelen_test.proofs.LaterSums.{numbers-next}
use Rattle.zelen_test.proofs.later_sums.numbers_of.Goals as goal

pub counted-requires : goal.counted-requires
counted-requires c = c.requires.each c.loop-left.left c.loop-left.invariant.0 (omega (arith, c.loop-left-test.true))

pub loop-left-preserved : goal.loop-left-preserved
loop-left-preserved c =
    let inv = c.loop-left.invariant in (
      omega (arith, inv.0),
      omega (arith, c.loop-left-test.true),
      rw c.in_ok-push.ensures.ok (numbers-next c.args.stratum c.args.later.now c.args.first c.loop-left.left c.in-Some.number c.loop-left.numbers inv.0 c.in-Some.ensures.0 c.in-Some.ensures.1 inv.2),
    )
