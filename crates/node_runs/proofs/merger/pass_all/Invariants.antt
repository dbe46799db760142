use Rattle.std.proofs.Common.{◌-◌, length}
use Rattle.node_runs.specs.RunSteps.{IsPassed}
use Rattle.node_runs.proofs.merger.pass_all.Given as goal

abbrev pub invariant-loop-at : goal.invariant-loop-at
invariant-loop-at g l = IsPassed l.from.nodes l.fn.at l.fn.into l.at l.into

abbrev pub decreases-loop-at : goal.decreases-loop-at
decreases-loop-at g l = length l.from.nodes - l.at
