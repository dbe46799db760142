use Rattle.std.proofs.Common.{map, take}
use Rattle.enumerate.specs.Joined.{joined_labellings}
use Rattle.enumerate.specs.Walk.{BeginsWith}
use Rattle.stratified_ranks.specs.StrataSteps.{part_sizes}
use Rattle.stratified_ranks.proofs.part_numbers.first_labels.Given as goal

abbrev pub invariant-loop-part : goal.invariant-loop-part
invariant-loop-part l = BeginsWith (joined_labellings (map part_sizes (take l.part-index l.parts))) l.labels
