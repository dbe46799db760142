use Rattle.weights.specs.declared.tails.Tail.TheVariants.{Less, Greater, Two}
use Rattle.stage_network.proofs.answering.one_by_one.Goals as goal

pub returns : goal.returns
returns g c Less asked = c.in_ok-less.ensures asked
returns g c Greater asked = c.in_ok-greater.ensures asked
returns g c Two asked = c.in_ok-two.ensures asked
