use Rattle.std.proofs.Common.{◌≡◌, ◌∙◌, refl, rules}
use Rattle.later_scores.specs.declared.ends.End.TheVariants.{Least, Greatest}
use Rattle.kruskal_wallis.specs.CentredSums.{from_middle}
use Rattle.kruskal_wallis.proofs.CentredKeys.{back-parts, front-parts, parts-addable}
use Rattle.kruskal_wallis.proofs.centred_sums.CentredSumsMeasure.outlook.Goals as goal

pub plus_each-requires-clause-fits : goal.plus_each-requires-clause-fits
plus_each-requires-clause-fits c =
    let s = c.args.self.now in
    let r = c.requires.room in
    let taken : c.score_parts.new.parts ≡ from_middle s.middle s.sums.rows.items = search rules in
    rw (c.split_at.ensures.front ∙ front-parts s c.args.stage c.args.remaining.now r.partial r.reached c.outlook.new.outlook c.outlook.ensures, taken) (parts-addable s c.args.stage c.args.remaining.now r.partial r.reached Least)

pub plus_each-requires-2-clause-fits : goal.plus_each-requires-2-clause-fits
plus_each-requires-2-clause-fits c =
    let s = c.args.self.now in
    let r = c.requires.room in
    let taken : c.score_parts.new.parts ≡ from_middle s.middle s.sums.rows.items = search rules in
    rw (c.split_at.ensures.back ∙ back-parts s c.args.stage c.args.remaining.now r.partial r.reached c.outlook.new.outlook c.outlook.ensures, taken) (parts-addable s c.args.stage c.args.remaining.now r.partial r.reached Greatest)

pub returns : goal.returns
returns c =
    let s = c.args.self.now in
    let r = c.requires.room in
    let taken : c.score_parts.new.parts ≡ from_middle s.middle s.sums.rows.items = search rules in
    rw (c.plus_each.ensures, c.plus_each-2.ensures, c.split_at.ensures.front ∙ front-parts s c.args.stage c.args.remaining.now r.partial r.reached c.outlook.new.outlook c.outlook.ensures, c.split_at.ensures.back ∙ back-parts s c.args.stage c.args.remaining.now r.partial r.reached c.outlook.new.outlook c.outlook.ensures, taken) refl
