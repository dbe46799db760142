use Rattle.std.proofs.Common.{◌≡◌, length}
use Rattle.node_pool.specs.PoolSteps.{keys_of}
use Rattle.node_pool.specs.TableSteps.{IsTable}
use Rattle.node_pool.proofs.table.rehash.Given as goal

abbrev pub invariant-loop-i : goal.invariant-loop-i
invariant-loop-i l = record {
  table : IsTable l.width l.i (keys_of l.width (length l.fn.slots) l.cells) l.slots l.buckets;
  size : length l.buckets ≡ length l.fn.buckets;
  count : length l.slots ≡ length l.fn.slots;
}
