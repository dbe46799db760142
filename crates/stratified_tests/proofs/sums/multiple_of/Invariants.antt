use Rattle.stratified_tests.proofs.Loops.{IsMultiple}
use Rattle.stratified_tests.proofs.sums.multiple_of.Given as goal

abbrev pub invariant-loop-done : goal.invariant-loop-done
invariant-loop-done l = IsMultiple l.fn.strata l.done l.multiple
