use Rattle.rank_assignments.proofs.AssignmentSteps.{IsAdding}
use Rattle.rank_assignments.proofs.assignments.add_block.Given as goal

abbrev pub invariant-loop-value : goal.invariant-loop-value
invariant-loop-value l = IsAdding l.counts l.fn.items.items l.items.items l.value l.left
