use Rattle.label_network.proofs.Rows.{IsWidth}
use Rattle.label_network.proofs.binomials.width_for.Given as goal

abbrev pub invariant-loop-i : goal.invariant-loop-i
invariant-loop-i l = IsWidth l.rows l.i l.later l.width

abbrev pub decreases-loop-i : goal.decreases-loop-i
decreases-loop-i l = l.i
