use Rattle.std.proofs.Common.{◌≡◌, subst, arith}
use Rattle.zelen_test.proofs.SumWalk.{IsCounting, counted-last}
use Rattle.zelen_test.proofs.sum_walk.go_back.Goals as goal

pub returns : goal.returns
returns c =
    let none : c.loop-left.left ≡ 0 = omega (arith, c.loop-left-test.false) in
    counted-last c.args.strata.now c.args.sum c.args.total c.requires.total c.loop-left.labels c.requires.some (subst (λ n. IsCounting c.args.strata.now c.args.sum c.args.total n c.loop-left.labels) none c.loop-left.invariant)
