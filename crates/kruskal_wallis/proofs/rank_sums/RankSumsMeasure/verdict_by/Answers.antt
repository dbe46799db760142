use Rattle.std.proofs.Common.{◌∙◌, ap, arith, length, refl}
use Rattle.later_scores.specs.declared.ends.End.TheVariants.{Least, Greatest}
use Rattle.kruskal_wallis.proofs.RankKeys.{back-is, front-is, end-addable, end-long, outlook-long, partial_is}
use Rattle.kruskal_wallis.proofs.rank_sums.RankSumsMeasure.verdict_by.Goals as goal

pub split_at-requires : goal.split_at-requires
split_at-requires c = omega (arith, outlook-long c.args.self.now c.args._stage c.args._remaining.now c.args.partial.now c.requires.reached c.args.outlook.now c.requires.outlook)

pub interval-interval-requires-clause-one_each : goal.interval-interval-requires-clause-one_each
interval-interval-requires-clause-one_each c = (partial_is c.args.self.now c.args._stage c.args._remaining.now c.args.partial.now c.requires.reached).wide

pub interval-interval-requires-clause-least : goal.interval-interval-requires-clause-least
interval-interval-requires-clause-least c = rw (c.split_at.ensures.front, front-is c.args.self.now c.args._stage c.args._remaining.now c.args.partial.now c.requires.reached c.args.outlook.now c.requires.outlook) (end-addable c.args.self.now c.args._stage c.args._remaining.now c.args.partial.now c.requires.reached Least)

pub interval-interval-requires-clause-greatest : goal.interval-interval-requires-clause-greatest
interval-interval-requires-clause-greatest c = rw (c.split_at.ensures.back, back-is c.args.self.now c.args._stage c.args._remaining.now c.args.partial.now c.requires.reached c.args.outlook.now c.requires.outlook) (end-addable c.args.self.now c.args._stage c.args._remaining.now c.args.partial.now c.requires.reached Greatest)

pub interval-interval-requires-clause-as_many : goal.interval-interval-requires-clause-as_many
interval-interval-requires-clause-as_many c = ap length (c.split_at.ensures.front ∙ front-is c.args.self.now c.args._stage c.args._remaining.now c.args.partial.now c.requires.reached c.args.outlook.now c.requires.outlook) ∙ end-long c.args.self.now c.args._stage c.args._remaining.now c.args.partial.now c.requires.reached Least

pub interval-interval-requires-clause-and_as_many : goal.interval-interval-requires-clause-and_as_many
interval-interval-requires-clause-and_as_many c = ap length (c.split_at.ensures.back ∙ back-is c.args.self.now c.args._stage c.args._remaining.now c.args.partial.now c.requires.reached c.args.outlook.now c.requires.outlook) ∙ end-long c.args.self.now c.args._stage c.args._remaining.now c.args.partial.now c.requires.reached Greatest

pub verdict-requires-clause-low : goal.verdict-requires-clause-low
verdict-requires-clause-low c = (c.args.self.now.right.squaring.rules_fit c.interval-interval.result.low).fits c.args.tail

pub verdict-requires-clause-high : goal.verdict-requires-clause-high
verdict-requires-clause-high c = (c.args.self.now.right.squaring.rules_fit c.interval-interval.result.high).fits c.args.tail

pub returns : goal.returns
returns c = c.verdict.ensures ∙ rw (c.interval-interval.ensures.low, c.interval-interval.ensures.high, c.split_at.ensures.front, c.split_at.ensures.back, front-is c.args.self.now c.args._stage c.args._remaining.now c.args.partial.now c.requires.reached c.args.outlook.now c.requires.outlook, back-is c.args.self.now c.args._stage c.args._remaining.now c.args.partial.now c.requires.reached c.args.outlook.now c.requires.outlook) refl
