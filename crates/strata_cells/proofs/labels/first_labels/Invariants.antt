use Rattle.std.proofs.Common.{map, take}
use Rattle.enumerate.specs.Joined.{joined_labellings}
use Rattle.enumerate.specs.Walk.{BeginsWith}
use Rattle.strata_cells.specs.Strata.{row_counts}
use Rattle.strata_cells.proofs.labels.first_labels.Given as goal

abbrev pub invariant-loop-stratum : goal.invariant-loop-stratum
invariant-loop-stratum l = BeginsWith (joined_labellings (map row_counts (take l.stratum-index l.strata))) l.labels
