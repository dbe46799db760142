use Rattle.std.proofs.Common.{◌≡◌, arith}
use Rattle.enumerate.proofs.SignSteps.{sign_lists_begin}
use Rattle.one_sample_tests.proofs.marks.first_marks.Goals as goal

pub returns : goal.returns
returns c =
    let all : c.loop-mark._mark ≡ c.args.count = omega arith in
    rw (c.loop-mark.invariant, all) (sign_lists_begin c.args.count)
