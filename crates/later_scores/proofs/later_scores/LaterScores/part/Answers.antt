use Rattle.std.proofs.Common.{rules}
use mir.Syntax.{w128}
use Rattle.std.proofs.lemmas.Int.{to_z-of_z}
use Rattle.later_scores.proofs.Lookups.{part-rest, part-fits}
use Rattle.later_scores.proofs.later_scores.LaterScores.part.Goals as goal

pub overflow_sub-result : goal.overflow_sub-result
overflow_sub-result c =
    rw (to_z-of_z w128 c.total-total.result (search rules), to_z-of_z w128 c.held-others.result (search rules), (part-rest _ _ _ _ _ _ _ c.args.self.now.right c.args.stage c.requires.stage c.args.end c.args.take c.count.result c.total-total.result c.held-others.result c.requires.few c.count.ensures c.total-total.ensures (rw c.other.ensures at c.held-others.ensures))) (part-fits _ _ _ _ _ _ _ c.args.self.now.right c.args.stage c.requires.stage c.args.end c.args.take)

pub returns-else-take-self : goal.returns-else-take-self
returns-else-take-self c =
    rw (to_z-of_z w128 c.total-total.result (search rules), to_z-of_z w128 c.held-others.result (search rules), (part-rest _ _ _ _ _ _ _ c.args.self.now.right c.args.stage c.requires.stage c.args.end c.args.take c.count.result c.total-total.result c.held-others.result c.requires.few c.count.ensures c.total-total.ensures (rw c.other.ensures at c.held-others.ensures))) (to_z-of_z w128 _ (part-fits _ _ _ _ _ _ _ c.args.self.now.right c.args.stage c.requires.stage c.args.end c.args.take))
