use Rattle.std.proofs.Common.{◌≡◌, take, map}
use Rattle.std.specs.List.{sum}
use Rattle.count_arrays.proofs.totals.total.Given as goal

abbrev pub invariant-loop-i : goal.invariant-loop-i
invariant-loop-i g l = l.all ≡ sum (take l.i (map g.C.Count.number l.cells))
