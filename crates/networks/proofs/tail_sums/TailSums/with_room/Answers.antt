use Rattle.weights.specs.declared.tails.Tail.TheVariants.{Less, Greater, Two}
use Rattle.networks.proofs.tail_sums.TailSums.with_room.Goals as goal

pub with_room-requires : goal.with_room-requires
with_room-requires c = record { fits = c.requires.fits Less; few = c.requires.few Less }

pub with_room-requires-2 : goal.with_room-requires-2
with_room-requires-2 c = record { fits = c.requires.fits Greater; few = c.requires.few Greater }

pub with_room-requires-3 : goal.with_room-requires-3
with_room-requires-3 c = record { fits = c.requires.fits Two; few = c.requires.few Two }
