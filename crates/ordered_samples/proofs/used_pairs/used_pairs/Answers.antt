use Rattle.std.specs.List.{flat_map}
use Rattle.weights.specs.Labellings.{labels}
use Rattle.ordered_samples.specs.Umbrella.{pair_of}
use Rattle.ordered_samples.proofs.Gathering.{gathered}
use Rattle.ordered_samples.proofs.used_pairs.used_pairs.Goals as goal

pub loop-v-preserved : goal.loop-v-preserved
loop-v-preserved c = gathered (λ w. flat_map (λ u. pair_of c.args.peak u w) (labels w)) c.args.groups c.loop-v.v c.loop-v.pairs.items _ _ c.loop-v-test.true c.loop-v.invariant c.in_ok-push_pairs.ensures
