use Rattle.std.proofs.Common.{◌≡◌, ◌++◌, take, map}
use Rattle.std.specs.Prelude.{pos}
use Rattle.node_pool.specs.PoolSteps.{nodes_of}
use Rattle.node_pool.specs.TableSteps.{key_at}
use Rattle.count_arrays.specs.Rows.{row_nodes}
use Rattle.stage_network.specs.ArcSteps.{lift}
use Rattle.stage_network.proofs.row_starts.write_row.Given as goal

-- the row has the keys from the first to before this one
abbrev pub invariant-loop-i : goal.invariant-loop-i
invariant-loop-i g l =
    let all = nodes_of l.key_width l.keys l.weights in
    let room = take l.width (key_at l.key_width l.keys l.start) in
    record {
      none : g.C.Count.number l.row.none ≡ 0;
      lowest : l.row.lowest ≡ l.lowest;
      stride : l.row.stride ≡ l.stride;
      nodes : take l.i all ≡ take l.start all ++ lift room (row_nodes l.lowest (pos l.stride) (map g.C.Count.number l.row.cells.items));
    }
