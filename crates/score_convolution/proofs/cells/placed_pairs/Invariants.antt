use Rattle.std.proofs.Common.{◌≡◌, ◌-◌, map, take, drop}
use Rattle.std.specs.List.{sum}
use Rattle.score_convolution.specs.Places.{placed_pairs}
use Rattle.score_convolution.proofs.cells.placed_pairs.Given as goal

-- the pairs with the cells before this one, and what is enough for it
abbrev pub invariant-loop-i : goal.invariant-loop-i
invariant-loop-i g l = record {
  enough : l.enough ≡ sum (drop (l.place - l.i) (map g.C.Count.number l.others));
  pairs : l.pairs ≡ placed_pairs l.place (take l.i (map g.C.Count.number l.ones)) (map g.C.Count.number l.others);
}
