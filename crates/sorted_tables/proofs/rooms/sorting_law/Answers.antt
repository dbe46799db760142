use Rattle.sorted_tables.proofs.SortedWays.{tables_give}
use Rattle.sorted_tables.proofs.rooms.sorting_law.Goals as goal

pub returns : goal.returns
returns c columns rows level = tables_give columns rows level
