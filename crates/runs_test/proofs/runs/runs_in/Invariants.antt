use Rattle.std.proofs.Common.{◌≡◌, ◌+◌, ◌≤◌, drop}
use Rattle.runs_test.proofs.RunValues.{runs_after}
use Rattle.runs_test.proofs.runs.runs_in.Given as goal

abbrev pub invariant-loop-label : goal.invariant-loop-label
invariant-loop-label l = record {
  few : l.runs ≤ l.label-index;
  counted : l.runs + runs_after l.last (drop l.label-index l.labels) ≡ runs_after 2 l.labels;
}
