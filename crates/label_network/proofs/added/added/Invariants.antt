use Rattle.later_scores.specs.LaterSums.{later_scores}
use Rattle.label_network.specs.Meanings.{sizes_in}
use Rattle.label_network.specs.LinearSteps.{picked}
use Rattle.label_network.proofs.Adding.{AreAdding}
use Rattle.label_network.proofs.added.added.Given as goal

abbrev pub invariant-loop-i : goal.invariant-loop-i
invariant-loop-i l = AreAdding l.rows (picked l.order (sizes_in l.remaining)) (later_scores l.tables.scores.items l.tables.columns.items l.stage) l.i l.left l.sums.low l.sums.high
