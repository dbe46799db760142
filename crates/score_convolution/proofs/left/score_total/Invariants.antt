use Rattle.std.proofs.Common.{◌≡◌, take}
use Rattle.score_convolution.specs.Draws.{score_total}
use Rattle.score_convolution.proofs.left.score_total.Given as goal

-- the scores before this one
abbrev pub invariant-loop-i : goal.invariant-loop-i
invariant-loop-i l = l.total ≡ score_total (take l.i l.scores)
