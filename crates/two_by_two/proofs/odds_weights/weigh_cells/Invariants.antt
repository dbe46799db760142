-- All cells so far are weighed.
use Rattle.weights.proofs.RangeSums.{IsAdded}
use Rattle.two_by_two.specs.OddsSteps.{cell_weight}
use Rattle.two_by_two.proofs.odds_weights.weigh_cells.Given as goal

abbrev pub invariant-loop-cell : goal.invariant-loop-cell
invariant-loop-cell l = IsAdded (cell_weight l.odds l.left l.right l.upper) l.least l.most l.cell l.all
