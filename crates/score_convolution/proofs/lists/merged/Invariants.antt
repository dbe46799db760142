use Rattle.std.proofs.Common.{◌+◌, ◌-◌, length}
use Rattle.score_convolution.proofs.SpotMerges.{Merges}
use Rattle.score_convolution.proofs.lists.merged.Given as goal

abbrev pub invariant-loop-i : goal.invariant-loop-i
invariant-loop-i g l = Merges l.ones l.others l.by l.i l.j l.spots

abbrev pub decreases-loop-i : goal.decreases-loop-i
decreases-loop-i g l = (length l.ones - l.i) + (length l.others - l.j)
