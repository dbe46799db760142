use Rattle.weights.specs.declared.tails.Tail.TheVariants.{Less, Greater, Two}
use Rattle.score_convolution.proofs.pairs.row_pairs.Goals as goal

pub asked_pairs-requires-clause-ordered : goal.asked_pairs-requires-clause-ordered
asked_pairs-requires-clause-ordered g c = c.requires.ordered Less

pub asked_pairs-requires-2-clause-ordered : goal.asked_pairs-requires-2-clause-ordered
asked_pairs-requires-2-clause-ordered g c = c.requires.ordered Greater

pub asked_pairs-requires-3-clause-ordered : goal.asked_pairs-requires-3-clause-ordered
asked_pairs-requires-3-clause-ordered g c = c.requires.ordered Two

pub returns : goal.returns
returns g c Less = c.asked_pairs.ensures
returns g c Greater = c.asked_pairs-2.ensures
returns g c Two = c.asked_pairs-3.ensures
