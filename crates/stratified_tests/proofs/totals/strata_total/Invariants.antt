use Rattle.stratified_tests.proofs.Loops.{IsTotalled}
use Rattle.stratified_tests.proofs.totals.strata_total.Given as goal

abbrev pub invariant-loop-stratum : goal.invariant-loop-stratum
invariant-loop-stratum l = IsTotalled l.fn.odds l.fn.strata l.stratum-index l.all
