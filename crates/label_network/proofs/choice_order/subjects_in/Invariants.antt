use Rattle.std.proofs.Common.{◌≡◌, take}
use Rattle.std.specs.List.{sum}
use Rattle.label_network.specs.Meanings.{sizes_in}
use Rattle.label_network.proofs.choice_order.subjects_in.Given as goal

abbrev pub invariant-loop-size : goal.invariant-loop-size
invariant-loop-size l = l.total ≡ sum (take l.size-index (sizes_in l.sizes))
