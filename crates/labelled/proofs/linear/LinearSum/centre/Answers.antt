use Rattle.std.proofs.Common.{◌∙◌, refl, rules}
use mir.Syntax.{w128}
use Rattle.std.proofs.lemmas.Int.{to_z-of_z}
use Rattle.labelled.proofs.LinearLaws.{centre-fits, columns-fit, total-is}
use Rattle.labelled.proofs.linear.LinearSum.centre.Goals as goal

pub score_choice-requires-2-clause-small : goal.score_choice-requires-2-clause-small
score_choice-requires-2-clause-small c =
    rw (c.as_slice-3.ensures, c.as_slice-4.ensures, c.scored-scored.ensures.scored) (columns-fit c.args.self.now c.scored-scored.ensures.fitting)

pub times-requires : goal.times-requires
times-requires c =
    rw (to_z-of_z w128 c.score_choice.result (search rules) ∙ c.score_choice.ensures, to_z-of_z w128 c.score_choice-2.result (search rules) ∙ c.score_choice-2.ensures, c.as_slice.ensures, c.as_slice-2.ensures, c.as_slice-3.ensures, c.as_slice-4.ensures, c.scored-scored.ensures.scored)
    (centre-fits c.args.self.now c.scored-scored.ensures.fitting)

pub returns : goal.returns
returns c =
    rw (to_z-of_z w128 c.times.result (search rules), c.times.ensures, to_z-of_z w128 c.score_choice.result (search rules) ∙ c.score_choice.ensures, to_z-of_z w128 c.score_choice-2.result (search rules) ∙ c.score_choice-2.ensures, c.as_slice.ensures, c.as_slice-2.ensures, c.as_slice-3.ensures, c.as_slice-4.ensures, c.scored-scored.ensures.scored, total-is c.args.self.now c.scored-scored.ensures.fitting) refl
