-- The sums so far, and those of the cells that are left, are the sums of all.
use Rattle.std.proofs.Common.{◌≡◌, ◌*◌, ◌-◌, length}
use Rattle.block_tests.specs.BlockTests.{added, cut, treatment_sums}
use Rattle.block_tests.proofs.sums.treatment_sums.Given as goal

abbrev pub invariant-loop-block : goal.invariant-loop-block
invariant-loop-block l = record {
  long : length l.sums ≡ l.treatments;
  left : length l.rest ≡ (l.fn.blocks - l._block) * l.treatments;
  all : added l.sums (treatment_sums l.treatments (cut l.treatments (l.fn.blocks - l._block) l.rest))
      ≡ treatment_sums l.treatments (cut l.treatments l.fn.blocks l.cells);
}
