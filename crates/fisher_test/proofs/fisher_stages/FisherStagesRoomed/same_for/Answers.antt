use mir.Syntax.{w128}
use Rattle.std.proofs.lemmas.Int.{to_z-of_z}
use Rattle.fisher_test.proofs.fisher_stages.FisherStagesRoomed.same_for.Goals as goal

pub same_for-requires-clause-reached : goal.same_for-requires-clause-reached
same_for-requires-clause-reached c = rw (to_z-of_z w128 c.args.partial c.ranges.partial) (rw c.in-Cell.is at c.requires.reached)

pub same_for-requires-in-Weight-clause-reached : goal.same_for-requires-in-Weight-clause-reached
same_for-requires-in-Weight-clause-reached c = rw (to_z-of_z w128 c.args.partial c.ranges.partial) (rw c.in-Weight.is at c.requires.reached)

pub same_for-requires-in-Sorted-clause-reached : goal.same_for-requires-in-Sorted-clause-reached
same_for-requires-in-Sorted-clause-reached c = rw (to_z-of_z w128 c.args.partial c.ranges.partial) (rw c.in-Sorted.is at c.requires.reached)

pub returns-in-Cell : goal.returns-in-Cell
returns-in-Cell c = rw c.in-Cell.is (λ d few. rw (to_z-of_z w128 c.args.partial c.ranges.partial) at (c.same_for.ensures d few))

pub returns-in-Weight : goal.returns-in-Weight
returns-in-Weight c = rw c.in-Weight.is (λ d few. rw (to_z-of_z w128 c.args.partial c.ranges.partial) at (c.same_for-in-Weight.ensures d few))

pub returns-in-Sorted : goal.returns-in-Sorted
returns-in-Sorted c = rw c.in-Sorted.is (λ d few. rw (to_z-of_z w128 c.args.partial c.ranges.partial) at (c.same_for-in-Sorted.ensures d few))
