use Rattle.weights.specs.declared.tails.Tail.TheVariants.{Less, Greater, Two}
use Rattle.score_convolution.proofs.meeting.sums_of_both.Goals as goal

pub plus-requires : goal.plus-requires
plus-requires c = c.requires Less

pub plus-requires-2 : goal.plus-requires-2
plus-requires-2 c = c.requires Greater

pub plus-requires-3 : goal.plus-requires-3
plus-requires-3 c = c.requires Two
