use Rattle.midranks.proofs.Runs.{GroupedBefore}
use Rattle.midranks.proofs.ties.runs.Given as goal

abbrev pub invariant-loop-i : goal.invariant-loop-i
invariant-loop-i l = GroupedBefore l.sorted l.i l.ties l.count
