use mir.Syntax.{w128}
use Rattle.std.proofs.lemmas.Int.{to_z-of_z}
use Rattle.kruskal_wallis.proofs.squared_stages.SquaredStagesRoomed.same_for.Goals as goal

pub same_for-requires-clause-reached : goal.same_for-requires-clause-reached
same_for-requires-clause-reached c = rw (to_z-of_z w128 c.args.partial c.ranges.partial) (rw c.in-Packed.is at c.requires.reached)

pub same_for-requires-in-Ordered-clause-reached : goal.same_for-requires-in-Ordered-clause-reached
same_for-requires-in-Ordered-clause-reached c = rw (to_z-of_z w128 c.args.partial c.ranges.partial) (rw c.in-Ordered.is at c.requires.reached)

pub same_for-requires-in-Written-clause-reached : goal.same_for-requires-in-Written-clause-reached
same_for-requires-in-Written-clause-reached c = rw (to_z-of_z w128 c.args.partial c.ranges.partial) (rw c.in-Written.is at c.requires.reached)

pub returns-in-Packed : goal.returns-in-Packed
returns-in-Packed c = rw c.in-Packed.is (λ d few. rw (to_z-of_z w128 c.args.partial c.ranges.partial) at (c.same_for.ensures d few))

pub returns-in-Ordered : goal.returns-in-Ordered
returns-in-Ordered c = rw c.in-Ordered.is (λ d few. rw (to_z-of_z w128 c.args.partial c.ranges.partial) at (c.same_for-in-Ordered.ensures d few))

pub returns-in-Written : goal.returns-in-Written
returns-in-Written c = rw c.in-Written.is (λ d few. rw (to_z-of_z w128 c.args.partial c.ranges.partial) at (c.same_for-in-Written.ensures d few))

pub same_for-requires-clause-outlook : goal.same_for-requires-clause-outlook
same_for-requires-clause-outlook c = rw c.in-Packed.is at c.requires.outlook
