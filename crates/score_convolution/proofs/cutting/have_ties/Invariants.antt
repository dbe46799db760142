use Rattle.std.proofs.Common.{◌≤◌}
use Rattle.score_convolution.proofs.cutting.have_ties.Given as goal

abbrev pub invariant-loop-i : goal.invariant-loop-i
invariant-loop-i l = l.taken ≤ l.i
