use Rattle.std.proofs.Common.{◌≡◌, bytes_eq, map, take}
use Rattle.sample_reader.specs.Groups.{number_among}
use Rattle.sample_reader.proofs.order.numbers_in.Given as goal

abbrev pub invariant-loop-label : goal.invariant-loop-label
invariant-loop-label l = l.numbers ≡ map (number_among bytes_eq l.order) (take l.label l.labels)
