use Rattle.std.proofs.Common.{◌≡◌, cond, take}
use Rattle.weights.specs.declared.tails.Tail.{Tail}
use Rattle.networks.specs.Asked.{asks}
use Rattle.networks.specs.EachTail.{sum_for}
use Rattle.score_convolution.specs.Sides.{is_in, sides_for}
use Rattle.score_convolution.specs.DrawRows.{rows_draws}
use Rattle.score_convolution.specs.Meetings.{met}
use Rattle.score_convolution.proofs.meeting.meeting.Given as goal

-- the rows before this one are met
abbrev pub invariant-loop-n : goal.invariant-loop-n
invariant-loop-n g l = (t : Tail) → (sum_for l.sums t).sum ≡ cond (asks l.tails t) (rows_draws g.K.Tally.cells (met g.K.Tally.cells (is_in (sides_for l.sides t)) l.drawn l.stride l.others) 0 l.stride (take l.n l.rows)) 0
