use Rattle.std.proofs.Common.{take}
use Rattle.score_convolution.specs.Subjects.{AreApart}
use Rattle.score_convolution.proofs.cutting.common_stride.Given as goal

-- that of the scores before this one
abbrev pub invariant-loop-i : goal.invariant-loop-i
invariant-loop-i l = AreApart l.stride (take l.i l.scores)
