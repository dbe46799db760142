use Rattle.std.proofs.Common.{◌∙◌, subst, rules}
use Rattle.std.specs.Int.{w128}
use Rattle.std.proofs.lemmas.Int.{to_z-of_z}
use Rattle.weights.specs.declared.tails.Tail.TheVariants.{Less, Greater, Two}
use Rattle.score_convolution.specs.LeftDraws.{AreLeftSides}
use Rattle.score_convolution.proofs.left.left_sides.Goals as goal

pub returns : goal.returns
returns c Less = subst (λ z. AreLeftSides z c.args.sides.now.less c.reflected.result) (to_z-of_z w128 c.score_total-total.result (search rules) ∙ c.score_total-total.ensures.is) c.reflected.ensures
returns c Greater = subst (λ z. AreLeftSides z c.args.sides.now.greater c.reflected-2.result) (to_z-of_z w128 c.score_total-total.result (search rules) ∙ c.score_total-total.ensures.is) c.reflected-2.ensures
returns c Two = subst (λ z. AreLeftSides z c.args.sides.now.two c.reflected-3.result) (to_z-of_z w128 c.score_total-total.result (search rules) ∙ c.score_total-total.ensures.is) c.reflected-3.ensures
