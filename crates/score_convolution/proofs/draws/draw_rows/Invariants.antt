use Rattle.std.proofs.Common.{take}
use Rattle.score_convolution.specs.DrawRows.{AreDraws}
use Rattle.score_convolution.proofs.draws.draw_rows.Given as goal

-- the draws of the subjects before this one
abbrev pub invariant-loop-i : goal.invariant-loop-i
invariant-loop-i g l = AreDraws g.K.Tally.cells g.K.Tally.LIMIT l.most l.stride (take l.i l.scores) l.rows.items
