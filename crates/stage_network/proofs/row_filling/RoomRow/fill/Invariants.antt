use Rattle.std.proofs.Common.{◌≡◌, ◌≤◌, ◌+◌, ℕ, List, suc, length, map, get_or, take, drop}
use Rattle.std.specs.Prelude.{ℤ, pos}
use Rattle.node_pool.specs.Nodes.{weighted}
use Rattle.count_arrays.specs.Rows.{row_nodes}
use Rattle.stage_network.specs.ArcSteps.{Arc, spread_out, bucket}
use Rattle.stage_network.specs.RowSteps.{all_nodes}
use Rattle.stage_network.proofs.row_filling.RoomRow.fill.Given as goal

-- the nodes so far, and those of the arcs to come, are those of all arcs to the room
abbrev pub invariant-loop-place : goal.invariant-loop-place
invariant-loop-place g l =
    let n = g.S.Stages.network l.stages in
    let w = g.S.Roomed.room_width l.stages in
    let nodes = all_nodes l.rows.rows in
    let arcs = l.all.listed.arcs.arcs in
    record {
      told : (f : List ℤ → ℕ) → weighted f (row_nodes l.lowest (pos l.stride) (map g.C.Count.number l.into)) + weighted (λ k. f (drop w k)) (spread_out n l.stage nodes (bucket l.target (take l.place arcs))) ≡ weighted (λ k. f (drop w k)) (spread_out n l.stage nodes (bucket l.target arcs));
      low : l.place ≤ length arcs;
      here : (i : ℕ) (d : Arc) → l.place ≡ suc i → (get_or arcs i d).target ≡ l.target;
      long : length l.into ≡ length l.initial.into;
    }

abbrev pub decreases-loop-place : goal.decreases-loop-place
decreases-loop-place g l = l.place
