use Rattle.std.proofs.Common.{◌≡◌, ◌<◌, ◌-◌, ◌∙◌, ℕ, List, ap, arith, get_or, length, map, sym}
use Rattle.std.specs.Prelude.{nat_abs}
use Rattle.std.proofs.lemmas.List.Sums.{sum_by_more}
use Rattle.label_network.proofs.Rows.{abs-at, length-abs}
use Rattle.rank_assignments.specs.Upright.{cubed}
use Rattle.rank_assignments.proofs.leaning.lean.Goals as goal

pub loop-i-preserved : goal.loop-i-preserved
loop-i-preserved c =
    let all : List ℕ = map nat_abs c.args.sums.now in
    let low : c.loop-i.i < length all = omega (arith, length-abs c.args.sums.now, c.loop-i-test.true) in
    let value : get_or all c.loop-i.i 0 ≡ c.sum_at-sum.result = abs-at c.args.sums.now c.loop-i.i c.loop-i-test.true ∙ sym c.sum_at-sum.ensures.is in
    let over = sum_by_more (λ s. s - c.args.number) all c.loop-i.i 0 low in
    let lacking = sum_by_more (λ s. cubed (c.args.number - s)) all c.loop-i.i 0 low in
    let own = sum_by_more cubed all c.loop-i.i 0 low in
    record {
      over = omega (arith, over, ap (λ s. s - c.args.number) value, c.loop-i.invariant.over, c.saturating_sub-over.ensures);
      lacking = omega (arith, lacking, ap (λ s. cubed (c.args.number - s)) value, c.loop-i.invariant.lacking, c.cubed-lacking.ensures.is, ap cubed c.saturating_sub.ensures);
      own = omega (arith, own, ap cubed value, c.loop-i.invariant.own, c.cubed-own.ensures.is);
      over_small = omega (arith, c.loop-i.invariant.over_small, c.sum_at-sum.ensures.small, c.saturating_sub-over.ensures);
      lacking_small = omega (arith, c.loop-i.invariant.lacking_small, c.cubed-lacking.ensures.small);
      own_small = omega (arith, c.loop-i.invariant.own_small, c.cubed-own.ensures.small);
    }
