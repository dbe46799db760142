use Rattle.std.proofs.Common.{◌≡◌, take}
use Rattle.rank_assignments.specs.Assignments.{all_assignments}
use Rattle.block_tests.proofs.block.assignments_of.Given as goal

abbrev pub invariant-loop-block : goal.invariant-loop-block
invariant-loop-block l = l.items.items ≡ all_assignments (take l.block-index l.blocks)
