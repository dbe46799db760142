use Rattle.std.proofs.Common.{◌≡◌, length, drop, ◌-◌}
use Rattle.zelen_test.specs.ZelenNetwork.{lesser_weights}
use Rattle.zelen_test.specs.ZelenSteps.{AreLesser}
use Rattle.zelen_test.proofs.zelen_measure.lesser_weights.Given as goal

abbrev pub invariant-loop-done : goal.invariant-loop-done
invariant-loop-done l = (l.product ≡ lesser_weights (drop (length l.strata - l.done) l.strata)) × AreLesser l.strata (length l.strata - l.done) l.products
