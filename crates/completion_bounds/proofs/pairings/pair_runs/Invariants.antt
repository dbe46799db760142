use Rattle.std.proofs.Common.{length}
use Rattle.completion_bounds.specs.Pairings.{paired, row_units, later_units, greatest_score}
use Rattle.completion_bounds.specs.PairingSteps.{turned}
use Rattle.completion_bounds.proofs.Runs.{IsWalk, walk_left}
use Rattle.completion_bounds.proofs.pairings.pair_runs.Given as goal

abbrev pub invariant-loop-rows_read : goal.invariant-loop-rows_read
invariant-loop-rows_read l = IsWalk (greatest_score (row_units l.rows)) (greatest_score (later_units l.from l.columns)) (length (row_units l.rows)) (paired (row_units l.rows) (later_units l.from (turned l.downwards l.columns))) l.from l.rows (turned l.downwards l.columns) l.rows_read l.row l.columns_read l.column l.sum

abbrev pub decreases-loop-rows_read : goal.decreases-loop-rows_read
decreases-loop-rows_read l = walk_left l.rows (turned l.downwards l.columns) l.rows_read l.row l.columns_read
