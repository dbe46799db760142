use Rattle.std.proofs.Common.{◌∙◌, FitsSigned, refl, sym, ap, rules}
use mir.Syntax.{w128}
use Rattle.std.proofs.lemmas.Int.{to_z-of_z}
use Rattle.weights.proofs.Centred.{framed}
use Rattle.labelled.specs.LabelTests.{LabelTest, label_test}
use Rattle.labelled.proofs.LabelLaws.{total-of}
use Rattle.labelled.proofs.labellings.Labelled+S.new.Goals as goal

pub framed-requires : goal.framed-requires
framed-requires g c =
    let t : LabelTest = g.S.LabelStatistic.says c.args.statistic in
    let s : FitsSigned w128 c.value-value.result = search rules in
    rw (c.far.ensures, c.requires.factor, (to_z-of_z w128 c.args.centre c.ranges.centre ∙ c.requires.centre), (to_z-of_z w128 c.value-value.result s ∙ c.value-value.ensures ∙ ap t.statistic c.requires.observed)) (framed t.factor t.centre (label_test t) _ refl refl c.requires.scale (c.requires.total ∙ sym (total-of t)) refl)
