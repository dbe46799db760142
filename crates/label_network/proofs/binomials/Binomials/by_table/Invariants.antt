use Rattle.std.proofs.Common.{◌≡◌, ◌*◌, drop}
use Rattle.std.specs.List.{sum}
use Rattle.weights.specs.Labellings.{number_of_labellings}
use Rattle.label_network.proofs.binomials.Binomials.by_table.Given as goal

-- the product so far times the labellings of the rest are the labellings of all
abbrev pub invariant-loop-count : goal.invariant-loop-count
invariant-loop-count l = record {
  rest : l.left ≡ sum (drop l.count-index l.counts);
  product : l.product * number_of_labellings (drop l.count-index l.counts) ≡ number_of_labellings l.counts;
}
