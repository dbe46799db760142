use Rattle.zelen_test.specs.ZelenSteps.{AreAllLaterSums}
use Rattle.zelen_test.proofs.LaterSums.{all-fit}
use Rattle.zelen_test.proofs.sum_counts.SumCounts.of.Goals as goal

pub invariant_of-result : goal.invariant_of-result
invariant_of-result c =
    let told = rw c.in-Some.is at c.in_ok-later_sums.ensures in
    let later_sums : AreAllLaterSums c.args.strata c.args.sum 0 c.in-Some.later_sums.items = rw c.as_slice.ensures at told in
    record { right = record { summed = c.requires; later_sums_are = later_sums; fits = all-fit c.args.strata c.args.sum c.requires c.in-Some.later_sums.items later_sums } }
