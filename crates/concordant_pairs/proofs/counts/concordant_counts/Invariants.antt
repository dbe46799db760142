use Rattle.std.proofs.Common.{◌≡◌, ◌≤◌, drop, length}
use Rattle.std.specs.List.{sum}
use Rattle.concordant_pairs.specs.ConcordantSteps.{AreCounts}
use Rattle.concordant_pairs.proofs.counts.concordant_counts.Given as goal

abbrev pub invariant-loop-at : goal.invariant-loop-at
invariant-loop-at l = (l.at ≤ length l.sizes) × (l.later ≡ sum (drop l.at l.sizes)) × AreCounts (drop l.at l.sizes) l.counts.items

abbrev pub decreases-loop-at : goal.decreases-loop-at
decreases-loop-at l = l.at
