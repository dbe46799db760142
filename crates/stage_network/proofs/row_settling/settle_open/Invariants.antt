use Rattle.std.proofs.Common.{◌≡◌, ◌-◌, ◌<◌, ◌≤◌, length, map, take, drop, get_or}
use Rattle.std.specs.Prelude.{pos}
use Rattle.weights.specs.declared.tails.Tail.{Tail}
use Rattle.count_arrays.specs.Rows.{row_nodes}
use Rattle.networks.specs.Asked.{asked}
use Rattle.stage_network.specs.NodeSteps.{open_nodes, opened_in}
use Rattle.networks.specs.EachTail.{sum_for}
use Rattle.stage_network.specs.ArcSteps.{lift}
use Rattle.stage_network.proofs.NodeSums.{inside_weight}
use Rattle.stage_network.proofs.row_settling.settle_open.Given as goal

-- the cells before this one are settled, and from here on nothing has changed
abbrev pub invariant-loop-i : goal.invariant-loop-i
invariant-loop-i g l =
    let n = asked l.tails (g.S.Stages.network l.stages) in
    let xs = map g.C.Count.number l.fn.cells in
    let ys = map g.C.Count.number l.cells in
    let old = lift l.room (row_nodes l.lowest (pos l.stride) (take l.i xs)) in
    record {
      long : length l.cells ≡ length l.fn.cells;
      within : l.i ≤ length l.fn.cells;
      full : l.i < length l.cells → 0 < get_or ys l.i 0;
      rest : drop l.i ys ≡ drop l.i xs;
      nodes : lift l.room (row_nodes l.lowest (pos l.stride) (take l.i ys)) ≡ open_nodes n l.stage old;
      inside : (t : Tail) → (sum_for l.inside t).sum ≡ inside_weight n t l.stage old;
      opened : (t : Tail) → (sum_for l.inside t).opened ≡ opened_in n t l.stage old;
    }

abbrev pub decreases-loop-i : goal.decreases-loop-i
decreases-loop-i g l = length l.fn.cells - l.i
