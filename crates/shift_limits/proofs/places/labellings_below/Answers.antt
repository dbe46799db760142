use Rattle.std.proofs.Common.{◌≡◌, ◌+◌, ◌-◌, ◌∙◌, FitsSigned, ap, sym, arith, rules}
use Rattle.std.specs.Int.{w128}
use Rattle.std.proofs.lemmas.Int.{to_z-of_z}
use Rattle.shift_limits.specs.LaterPairs.{labellings_below}
use Rattle.shift_limits.proofs.Halving.{labellings-none}
use Rattle.shift_limits.proofs.places.labellings_below.Goals as goal

pub returns-then-pairs-eq0 : goal.returns-then-pairs-eq0
returns-then-pairs-eq0 c = rw c.if-pairs-eq0.true (sym (labellings-none c.args.sizes.now))

pub returns : goal.returns
returns c =
    let sizes = c.args.sizes.now in
    let fits : FitsSigned w128 c.rank_sum.result = search rules in
    let back : c.args.pairs - 1 + 1 ≡ c.args.pairs = omega (arith, c.if-pairs-eq0.false) in
    rw (to_z-of_z w128 c.rank_sum.result fits, c.rank_sum.ensures) at c.below.ensures.sum
    ∙ c.requires.counted (c.args.pairs - 1) ∙ ap (labellings_below sizes) back
