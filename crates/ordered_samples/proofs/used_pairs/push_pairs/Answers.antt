use Rattle.ordered_samples.specs.Umbrella.{pair_of}
use Rattle.ordered_samples.proofs.Gathering.{gathered}
use Rattle.ordered_samples.proofs.used_pairs.push_pairs.Goals as goal

pub loop-u-preserved : goal.loop-u-preserved
loop-u-preserved c = gathered (λ w. pair_of c.args.peak w c.args.v) c.args.v c.loop-u.u c.loop-u.pairs.items _ _ c.loop-u-test.true c.loop-u.invariant c.in_ok-push_pair.ensures
