use Rattle.std.proofs.Common.{◌≡◌, ◌∙◌, refl, ap, rules, sym, length}
use mir.Syntax.{w128}
use mir.Val.{to_z, of_z}
use Rattle.std.proofs.lemmas.Int.{to_z-of_z}
use Rattle.weights.proofs.Centred.{framed}
use Rattle.labelled.specs.LabelTests.{LabelTest}
use Rattle.labelled.specs.LinearTests.{linear_label_test, linear_says}
use Rattle.labelled.specs.declared.linear.ScoredLabels.{ScoredLabels}
use Rattle.labelled.proofs.LabelLaws.{total-of}
use Rattle.labelled.proofs.linear.LinearSum.frame.Goals as goal

pub far-requires : goal.far-requires
far-requires c =
    rw (c.len-factor.ensures, to_z-of_z w128 c.centre.result (search rules) ∙ c.centre.ensures, to_z-of_z w128 c.value-statistic.result (search rules) ∙ c.value-statistic.ensures, c.as_slice.ensures, c.scored-scored.ensures.scored)
    (c.sound.ensures.within.fits _ c.sound.ensures.within.observed)

pub returns : goal.returns
returns c =
    let t : LabelTest = linear_says c.args.self.now in
    let value : to_z w128 (of_z w128 c.value-statistic.result) ≡ t.statistic t.observed =
    to_z-of_z w128 c.value-statistic.result (search rules) ∙ c.value-statistic.ensures ∙ ap t.statistic (c.as_slice.ensures ∙ ap (λ (s : ScoredLabels). s.observed) c.scored-scored.ensures.scored) in
    rw (c.far.ensures, c.len-factor.ensures ∙ ap (λ (s : ScoredLabels). length s.scores) c.scored-scored.ensures.scored, (to_z-of_z w128 c.centre.result (search rules) ∙ c.centre.ensures), value)
    (framed t.factor t.centre (linear_label_test c.args.self.now) _ refl refl (ap (λ (s : ScoredLabels). s.scale) c.scored-scored.ensures.scored) (c.requires ∙ sym (total-of t)) refl)
