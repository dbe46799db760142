use mir.Syntax.{w128}
use Rattle.std.proofs.lemmas.Int.{to_z-of_z}
use Rattle.block_tests.proofs.block_stages.BlockStagesRoomed.same_for.Goals as goal

pub same_for-requires-clause-reached : goal.same_for-requires-clause-reached
same_for-requires-clause-reached c = rw (to_z-of_z w128 c.args.partial c.ranges.partial) (rw c.in-Assigned.is at c.requires.reached)

pub same_for-requires-in-Squares-clause-reached : goal.same_for-requires-in-Squares-clause-reached
same_for-requires-in-Squares-clause-reached c = rw (to_z-of_z w128 c.args.partial c.ranges.partial) (rw c.in-Squares.is at c.requires.reached)

pub same_for-requires-in-Page-clause-reached : goal.same_for-requires-in-Page-clause-reached
same_for-requires-in-Page-clause-reached c = rw (to_z-of_z w128 c.args.partial c.ranges.partial) (rw c.in-Page.is at c.requires.reached)

pub returns-in-Assigned : goal.returns-in-Assigned
returns-in-Assigned c = rw c.in-Assigned.is (λ d few. rw (to_z-of_z w128 c.args.partial c.ranges.partial) at (c.same_for.ensures d few))

pub returns-in-Squares : goal.returns-in-Squares
returns-in-Squares c = rw c.in-Squares.is (λ d few. rw (to_z-of_z w128 c.args.partial c.ranges.partial) at (c.same_for-in-Squares.ensures d few))

pub returns-in-Page : goal.returns-in-Page
returns-in-Page c = rw c.in-Page.is (λ d few. rw (to_z-of_z w128 c.args.partial c.ranges.partial) at (c.same_for-in-Page.ensures d few))
