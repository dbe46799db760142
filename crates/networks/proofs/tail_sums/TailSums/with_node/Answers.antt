use Rattle.weights.specs.declared.tails.Tail.TheVariants.{Less, Greater, Two}
use Rattle.networks.proofs.tail_sums.TailSums.with_node.Goals as goal

pub with_node-requires : goal.with_node-requires
with_node-requires c = record { fits = c.requires.fits Less; few = c.requires.few Less }

pub with_node-requires-2 : goal.with_node-requires-2
with_node-requires-2 c = record { fits = c.requires.fits Greater; few = c.requires.few Greater }

pub with_node-requires-3 : goal.with_node-requires-3
with_node-requires-3 c = record { fits = c.requires.fits Two; few = c.requires.few Two }
