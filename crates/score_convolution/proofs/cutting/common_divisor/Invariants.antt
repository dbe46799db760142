use Rattle.std.proofs.Common.{◌∷◌, take}
use Rattle.std.specs.Prelude.{pos}
use Rattle.score_convolution.specs.Subjects.{AreApart}
use Rattle.score_convolution.proofs.cutting.common_divisor.Given as goal

-- that of 0 and the scores before this one
abbrev pub invariant-loop-i : goal.invariant-loop-i
invariant-loop-i l = AreApart l.divisor (pos 0 ∷ take l.i l.scores)
