use Rattle.weights.specs.declared.tails.Tail.TheVariants.{Less, Greater, Two}
use Rattle.fisher_test.proofs.fisher_ways.FisherTablePrepared.numerators.Goals as goal

pub returns : goal.returns
returns c Less a = c.in_ok-sums.ensures Less a
returns c Greater a = c.in_ok-sums.ensures Greater a
returns c Two a = c.in_ok-two.ensures a
