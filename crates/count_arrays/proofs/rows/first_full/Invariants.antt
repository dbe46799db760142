use Rattle.std.proofs.Common.{◌≡◌, ℕ, ◌<◌, get_or, map}
use Rattle.count_arrays.proofs.rows.first_full.Given as goal

-- no cell before this one has a key
abbrev pub invariant-loop-i : goal.invariant-loop-i
invariant-loop-i g l = (j : ℕ) → j < l.i → get_or (map g.C.Count.number l.cells) j 0 ≡ 0
