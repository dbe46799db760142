use Rattle.std.proofs.Common.{rules, ◌∙◌, sym}
use mir.Syntax.{w128}
use Rattle.std.proofs.lemmas.Int.{to_z-of_z}
use Rattle.kruskal_wallis.proofs.RankKeys.{choice-long, parts-fit}
use Rattle.kruskal_wallis.proofs.rank_sums.RankSumsMeasure.step.Goals as goal

pub score_parts-requires-clause-fits : goal.score_parts-requires-clause-fits
score_parts-requires-clause-fits c =
    rw (to_z-of_z w128 c.score.result (search rules) ∙ c.score.ensures) (parts-fit c.args.self.now c.args.stage c.args._remaining.now c.requires.way.partial c.requires.way.move.reached c.requires.way.move.before c.args.choice.now c.requires.way.move.allowed)

pub score_parts-requires-clause-room : goal.score_parts-requires-clause-room
score_parts-requires-clause-room c = c.requires.room ∙ sym (choice-long c.args.self.now c.args.stage c.args._remaining.now c.requires.way.partial c.requires.way.move.reached c.requires.way.move.before c.args.choice.now c.requires.way.move.allowed)

pub returns : goal.returns
returns c =
    rw (to_z-of_z w128 c.score.result (search rules) ∙ c.score.ensures) at c.score_parts.ensures
