-- The blocks so far, and those of the values that are left, are all.
use Rattle.std.proofs.Common.{◌≡◌, ◌*◌, ◌-◌, ◌++◌, length, map}
use Rattle.std.specs.List.{concat}
use Rattle.block_tests.specs.BlockTests.{TakesCells, cells_in, cell_counts, cut}
use Rattle.block_tests.proofs.ranked.rank_blocks.Given as goal

abbrev pub invariant-loop-block : goal.invariant-loop-block
invariant-loop-block l = record {
  left : length l.rest ≡ (l.fn.blocks - l._block) * l.treatments;
  taken : TakesCells l.kind l.rest;
  blocks : l.ranked.blocks.items ++ map (cell_counts l.kind l.treatments) (cut l.treatments (l.fn.blocks - l._block) l.rest)
      ≡ map (cell_counts l.kind l.treatments) (cut l.treatments l.fn.blocks l.values);
  cells : l.ranked.cells ++ concat (map (cells_in l.kind) (cut l.treatments (l.fn.blocks - l._block) l.rest))
      ≡ concat (map (cells_in l.kind) (cut l.treatments l.fn.blocks l.values));
}
