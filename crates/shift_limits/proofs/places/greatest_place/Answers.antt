use Rattle.std.proofs.Common.{◌≡◌, ◌<◌, ◌≤◌, ◌-◌, ◌/◌, ◌∙◌, ℕ, false, refl, sym, arith}
use Rattle.shift_limits.specs.LaterPairs.{labellings_below}
use Rattle.shift_limits.specs.LimitSteps.{is_within}
use Rattle.shift_limits.proofs.Halving.{greatest-above, not-within, within-none}
use Rattle.shift_limits.proofs.places.greatest_place.Goals as goal

pub loop-low-init : goal.loop-low-init
loop-low-init c = record { order = omega arith; within = omega arith; passes = refl; same = refl }

pub loop-low-preserved : goal.loop-low-preserved
loop-low-preserved c =
    let sizes = c.args.sizes.now in
    let most = c.args.most in
    let old = c.loop-low.invariant in
    let middle = c.loop-low.high - (c.loop-low.high - c.loop-low.low) / 2 in
    let above : 1 ≤ middle = omega (arith, c.loop-low-test.true) in
    let fails : is_within sizes most middle ≡ false = not-within (labellings_below sizes middle) most (omega (arith, c.labellings_below.ensures, c.if-labellings_below-most.false)) in
    let none : (j : ℕ) → middle - 1 < j → is_within sizes most j ≡ false = λ j h. within-none sizes most middle j (omega (arith, h)) fails in
    record {
      order = omega (arith, c.loop-low-test.true);
      within = omega (arith, old.within);
      passes = old.passes;
      same = sym (greatest-above (is_within sizes most) (middle - 1) c.loop-low.high none (omega arith)) ∙ old.same;
    }
