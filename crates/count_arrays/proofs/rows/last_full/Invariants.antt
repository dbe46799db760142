use Rattle.std.proofs.Common.{◌≡◌, ℕ, ◌≤◌, length, get_or, map}
use Rattle.count_arrays.proofs.rows.last_full.Given as goal

-- no cell from this one on has a key
abbrev pub invariant-loop-end : goal.invariant-loop-end
invariant-loop-end g l = record {
  within : l.end ≤ length l.cells;
  none : (j : ℕ) → l.end ≤ j → get_or (map g.C.Count.number l.cells) j 0 ≡ 0;
}

abbrev pub decreases-loop-end : goal.decreases-loop-end
decreases-loop-end g l = l.end
