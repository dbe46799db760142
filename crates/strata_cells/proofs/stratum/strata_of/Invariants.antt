use Rattle.strata_cells.proofs.StrataReads.{IsRead}
use Rattle.strata_cells.proofs.stratum.strata_of.Given as goal

abbrev pub invariant-loop-number : goal.invariant-loop-number
invariant-loop-number l = IsRead l.fn.cells l.number l.strata
