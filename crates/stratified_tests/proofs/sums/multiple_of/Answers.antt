use Rattle.std.proofs.Common.{arith}
use Rattle.stratified_tests.proofs.Loops.{multiple-within}
use Rattle.stratified_tests.proofs.sums.multiple_of.Goals as goal

pub returns-in_err-multiple : goal.returns-in_err-multiple
returns-in_err-multiple c =
    rw c.from_residual.ensures (λ whole. c.in_err-multiple.ensures (rw c.size.ensures (omega (arith, multiple-within c.args.strata.now c.loop-done.done c.loop-done.multiple c.loop-done-test.true c.loop-done.invariant, whole))))
