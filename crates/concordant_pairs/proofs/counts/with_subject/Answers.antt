use Rattle.std.proofs.Common.{arith}
use Rattle.concordant_pairs.proofs.Counting.{all-counted}
use Rattle.concordant_pairs.proofs.counts.with_subject.Goals as goal

pub returns : goal.returns
returns c =
    all-counted c.args.rest.now c.args.group c.args.other c.loop-place.new.items (omega (arith, c.loop-place.invariant.0, c.loop-place.auto.place-end, c.loop-place-test.false, c.requires.len)) (λ u h. c.loop-place.invariant.1 u (omega (arith, h, c.loop-place.invariant.0)))
