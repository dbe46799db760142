use Rattle.std.proofs.Common.{◌∙◌, ap, arith, length, refl, sym}
use Rattle.completion_bounds.proofs.Bounding.{squares-order}
use Rattle.later_scores.specs.declared.ends.End.TheVariants.{Least, Greatest}
use Rattle.kruskal_wallis.proofs.CentredKeys.{back-is, box-fits, end-addable, end-narrow, ends-long, front-is, kept, outlook-long, partial-few, side-is, side-long}
use Rattle.kruskal_wallis.proofs.centred_sums.CentredSumsMeasure.verdict_by.Goals as goal

pub split_at-requires : goal.split_at-requires
split_at-requires c = omega (arith, outlook-long c.args.self.now c.args._stage c.args._remaining.now c.args.partial.now c.requires.reached c.args.outlook.now c.requires.outlook)

pub wide_verdict-requires-clause-one_each : goal.wide_verdict-requires-clause-one_each
wide_verdict-requires-clause-one_each c = (kept c.args.self.now c.args._stage c.args._remaining.now c.args.partial.now c.requires.reached).wide

pub wide_verdict-requires-clause-least : goal.wide_verdict-requires-clause-least
wide_verdict-requires-clause-least c =
    rw (c.split_at.ensures.front, front-is c.args.self.now c.args._stage c.args._remaining.now c.args.partial.now c.requires.reached c.args.outlook.now c.requires.outlook) (end-addable c.args.self.now c.args._stage c.args._remaining.now c.args.partial.now c.requires.reached Least)

pub wide_verdict-requires-clause-greatest : goal.wide_verdict-requires-clause-greatest
wide_verdict-requires-clause-greatest c =
    rw (c.split_at.ensures.back, back-is c.args.self.now c.args._stage c.args._remaining.now c.args.partial.now c.requires.reached c.args.outlook.now c.requires.outlook) (end-addable c.args.self.now c.args._stage c.args._remaining.now c.args.partial.now c.requires.reached Greatest)

pub wide_verdict-requires-clause-and_as_many : goal.wide_verdict-requires-clause-and_as_many
wide_verdict-requires-clause-and_as_many c =
    ap length (c.split_at.ensures.back ∙ back-is c.args.self.now c.args._stage c.args._remaining.now c.args.partial.now c.requires.reached c.args.outlook.now c.requires.outlook) ∙ ends-long c.args.self.now c.args._stage c.args._remaining.now c.args.partial.now c.requires.reached Greatest

pub returns-then-not-self : goal.returns-then-not-self
returns-then-not-self c =
    c.wide_verdict.ensures
    ∙ rw (
      c.split_at.ensures.front,
      c.split_at.ensures.back,
      front-is c.args.self.now c.args._stage c.args._remaining.now c.args.partial.now c.requires.reached c.args.outlook.now c.requires.outlook,
      back-is c.args.self.now c.args._stage c.args._remaining.now c.args.partial.now c.requires.reached c.args.outlook.now c.requires.outlook,
      side-is c.args.self.now c.args._stage c.args._remaining.now c.args.partial.now c.requires.reached Least,
      side-is c.args.self.now c.args._stage c.args._remaining.now c.args.partial.now c.requires.reached Greatest,
    ) refl

pub ends-lows-requires-clause-few : goal.ends-lows-requires-clause-few
ends-lows-requires-clause-few c = partial-few c.args.self.now c.args._stage c.args._remaining.now c.args.partial.now c.requires.reached

pub ends-lows-requires-clause-narrow : goal.ends-lows-requires-clause-narrow
ends-lows-requires-clause-narrow c =
    rw (c.split_at.ensures.front, front-is c.args.self.now c.args._stage c.args._remaining.now c.args.partial.now c.requires.reached c.args.outlook.now c.requires.outlook) (end-narrow c.args.self.now c.args._stage c.args._remaining.now c.args.partial.now c.requires.reached Least (c.args.self.now.boxes c.if-not-self.false))

pub ends-highs-requires-clause-few : goal.ends-highs-requires-clause-few
ends-highs-requires-clause-few c = partial-few c.args.self.now c.args._stage c.args._remaining.now c.args.partial.now c.requires.reached

pub ends-highs-requires-clause-narrow : goal.ends-highs-requires-clause-narrow
ends-highs-requires-clause-narrow c =
    rw (c.split_at.ensures.back, back-is c.args.self.now c.args._stage c.args._remaining.now c.args.partial.now c.requires.reached c.args.outlook.now c.requires.outlook) (end-narrow c.args.self.now c.args._stage c.args._remaining.now c.args.partial.now c.requires.reached Greatest (c.args.self.now.boxes c.if-not-self.false))

pub ends-highs-requires-clause-one_each : goal.ends-highs-requires-clause-one_each
ends-highs-requires-clause-one_each c =
    ap length (c.split_at.ensures.back ∙ back-is c.args.self.now c.args._stage c.args._remaining.now c.args.partial.now c.requires.reached c.args.outlook.now c.requires.outlook) ∙ ends-long c.args.self.now c.args._stage c.args._remaining.now c.args.partial.now c.requires.reached Greatest

pub narrow_squares-low-requires-clause-highs : goal.narrow_squares-low-requires-clause-highs
narrow_squares-low-requires-clause-highs c =
    rw (c.ends-lows.ensures, c.ends-highs.ensures, c.split_at.ensures.front, c.split_at.ensures.back, front-is c.args.self.now c.args._stage c.args._remaining.now c.args.partial.now c.requires.reached c.args.outlook.now c.requires.outlook, back-is c.args.self.now c.args._stage c.args._remaining.now c.args.partial.now c.requires.reached c.args.outlook.now c.requires.outlook)
    (side-long c.args.self.now c.args._stage c.args._remaining.now c.args.partial.now c.requires.reached Greatest ∙ sym (side-long c.args.self.now c.args._stage c.args._remaining.now c.args.partial.now c.requires.reached Least))

pub narrow_squares-low-requires-clause-factors : goal.narrow_squares-low-requires-clause-factors
narrow_squares-low-requires-clause-factors c =
    rw (c.factors.ensures, c.ends-lows.ensures, c.split_at.ensures.front, front-is c.args.self.now c.args._stage c.args._remaining.now c.args.partial.now c.requires.reached c.args.outlook.now c.requires.outlook)
    (c.args.self.now.sums.right.squaring.one_each ∙ sym (side-long c.args.self.now c.args._stage c.args._remaining.now c.args.partial.now c.requires.reached Least))

pub narrow_squares-low-requires-clause-fits : goal.narrow_squares-low-requires-clause-fits
narrow_squares-low-requires-clause-fits c =
    rw (c.ends-lows.ensures, c.ends-highs.ensures, c.split_at.ensures.front, c.split_at.ensures.back, front-is c.args.self.now c.args._stage c.args._remaining.now c.args.partial.now c.requires.reached c.args.outlook.now c.requires.outlook, back-is c.args.self.now c.args._stage c.args._remaining.now c.args.partial.now c.requires.reached c.args.outlook.now c.requires.outlook, c.factors.ensures)
    (omega (arith, box-fits c.args.self.now c.args._stage c.args._remaining.now c.args.partial.now c.requires.reached (c.args.self.now.boxes c.if-not-self.false).room))

pub judged-requires-clause-least : goal.judged-requires-clause-least
judged-requires-clause-least c =
    rw (c.narrow_squares-low.ensures.least, c.ends-lows.ensures, c.ends-highs.ensures, c.split_at.ensures.front, c.split_at.ensures.back, front-is c.args.self.now c.args._stage c.args._remaining.now c.args.partial.now c.requires.reached c.args.outlook.now c.requires.outlook, back-is c.args.self.now c.args._stage c.args._remaining.now c.args.partial.now c.requires.reached c.args.outlook.now c.requires.outlook, c.factors.ensures)
    (omega (arith, squares-order, box-fits c.args.self.now c.args._stage c.args._remaining.now c.args.partial.now c.requires.reached (c.args.self.now.boxes c.if-not-self.false).room))

pub judged-requires-clause-greatest : goal.judged-requires-clause-greatest
judged-requires-clause-greatest c =
    rw (c.narrow_squares-low.ensures.greatest, c.ends-lows.ensures, c.ends-highs.ensures, c.split_at.ensures.front, c.split_at.ensures.back, front-is c.args.self.now c.args._stage c.args._remaining.now c.args.partial.now c.requires.reached c.args.outlook.now c.requires.outlook, back-is c.args.self.now c.args._stage c.args._remaining.now c.args.partial.now c.requires.reached c.args.outlook.now c.requires.outlook, c.factors.ensures)
    (box-fits c.args.self.now c.args._stage c.args._remaining.now c.args.partial.now c.requires.reached (c.args.self.now.boxes c.if-not-self.false).room)

pub returns : goal.returns
returns c =
    c.judged.ensures
    ∙ rw (
      c.narrow_squares-low.ensures.least,
      c.narrow_squares-low.ensures.greatest,
      c.factors.ensures,
      c.ends-lows.ensures,
      c.ends-highs.ensures,
      c.split_at.ensures.front,
      c.split_at.ensures.back,
      front-is c.args.self.now c.args._stage c.args._remaining.now c.args.partial.now c.requires.reached c.args.outlook.now c.requires.outlook,
      back-is c.args.self.now c.args._stage c.args._remaining.now c.args.partial.now c.requires.reached c.args.outlook.now c.requires.outlook,
      side-is c.args.self.now c.args._stage c.args._remaining.now c.args.partial.now c.requires.reached Least,
      side-is c.args.self.now c.args._stage c.args._remaining.now c.args.partial.now c.requires.reached Greatest,
    ) refl
