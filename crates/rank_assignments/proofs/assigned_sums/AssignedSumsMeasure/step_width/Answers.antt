use Rattle.std.proofs.Common.{arith}
use Rattle.rank_assignments.proofs.assigned_sums.AssignedSumsMeasure.step_width.Goals as goal

pub returns-clause-few : goal.returns-clause-few
returns-clause-few c = omega (arith, c.args.self.now.assignments.right.narrow)
