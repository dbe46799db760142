use Rattle.std.proofs.Common.{◌≡◌, ◌∙◌, length, refl, ap, arith}
use Rattle.std.specs.Prelude.{pos, replicate}
use Rattle.one_sample_tests.proofs.FittingSamples.{ones-are, ones-sum}
use Rattle.one_sample_tests.proofs.scored_marks.ones.Goals as goal

pub returns : goal.returns
returns c =
    let all : c.loop-size._size-index ≡ length c.args.sizes.now = omega arith in
    record { list = c.loop-size.invariant ∙ ap (λ n. replicate n (pos 1)) all ∙ ones-are c.args.sizes.now; scale = refl; sum = ones-sum c.args.sizes.now }
