use Rattle.std.proofs.Common.{◌∙◌, ap, length, sym}
use Rattle.label_network.specs.Linear.{score_of}
use Rattle.kruskal_wallis.proofs.RankNarrows.{length-parts}
use Rattle.kruskal_wallis.proofs.RankKeys.{choice-long, partial_is, parts-addable}
use Rattle.kruskal_wallis.proofs.rank_sums.RankSumsMeasure.follow.Goals as goal

pub plus_each-requires-clause-fits : goal.plus_each-requires-clause-fits
plus_each-requires-clause-fits c = rw c.requires.step (parts-addable c.args.self.now c.args._stage c.args._remaining.now c.args.partial.now c.requires.allowed.reached c.requires.allowed.before c.args._choice.now c.requires.allowed.allowed)

pub plus_each-requires-clause-one_each : goal.plus_each-requires-clause-one_each
plus_each-requires-clause-one_each c =
    ap length c.requires.step ∙ length-parts (score_of c.args.self.now.later.scores.items c.args._stage) c.args._choice.now
    ∙ choice-long c.args.self.now c.args._stage c.args._remaining.now c.args.partial.now c.requires.allowed.reached c.requires.allowed.before c.args._choice.now c.requires.allowed.allowed
    ∙ sym (partial_is c.args.self.now c.args._stage c.args._remaining.now c.args.partial.now c.requires.allowed.reached).wide

pub plus_each-requires-clause-room : goal.plus_each-requires-clause-room
plus_each-requires-clause-room c = c.requires.room ∙ sym (partial_is c.args.self.now c.args._stage c.args._remaining.now c.args.partial.now c.requires.allowed.reached).wide

pub returns : goal.returns
returns c = rw c.requires.step at c.plus_each.ensures
