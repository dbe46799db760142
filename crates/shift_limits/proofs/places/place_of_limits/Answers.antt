use Rattle.std.proofs.Common.{◌∙◌, ◌<◌, ◌*◌, ◌/◌, ap, sym, arith}
use Rattle.shift_limits.specs.LaterPairs.{greatest_to, misses_at_most}
use Rattle.shift_limits.specs.LimitSteps.{is_within}
use Rattle.shift_limits.proofs.Halving.{greatest-same, missed-within}
use Rattle.shift_limits.proofs.places.place_of_limits.Goals as goal

pub returns : goal.returns
returns c =
    let miss = c.args.miss in
    let sizes = c.args.sizes.now in
    let some : 0 < miss.below = omega (arith, c.requires.miss.some, c.requires.miss.part) in
    c.greatest_place.ensures
    ∙ ap (λ most. greatest_to (is_within sizes most) c.args.pairs) (c.most_missed.ensures ∙ ap (λ t. miss.above * t / (2 * miss.below)) c.requires.total)
    ∙ sym (greatest-same (misses_at_most sizes miss) _ (λ k. missed-within sizes miss k some) c.args.pairs)
