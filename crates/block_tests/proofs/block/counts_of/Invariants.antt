use Rattle.std.proofs.Common.{◌≡◌}
use Rattle.weights.specs.Labellings.{counts_of}
use Rattle.block_tests.proofs.block.counts_of.Given as goal

abbrev pub invariant-loop-number : goal.invariant-loop-number
invariant-loop-number l = l.counts ≡ counts_of l.number-counter l.cells
