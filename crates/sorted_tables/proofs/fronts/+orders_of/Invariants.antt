use Rattle.std.proofs.Common.{length}
use Rattle.sorted_tables.proofs.fronts.+orders_of.Given as goal

abbrev pub decreases-orders_of : goal.decreases-orders_of
decreases-orders_of l = length l.rows.now
