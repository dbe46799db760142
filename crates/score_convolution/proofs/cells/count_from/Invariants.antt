use Rattle.std.proofs.Common.{◌≡◌, ◌+◌, map, drop}
use Rattle.std.specs.List.{sum}
use Rattle.score_convolution.proofs.cells.count_from.Given as goal

-- the cells before this one are counted
abbrev pub invariant-loop-i : goal.invariant-loop-i
invariant-loop-i g l = l.count + sum (drop l.i (map g.C.Count.number l.cells)) ≡ sum (drop l.place (map g.C.Count.number l.cells))
