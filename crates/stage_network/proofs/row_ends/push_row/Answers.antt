use Rattle.std.proofs.Common.{◌≡◌, ◌<◌, length, map, get_or, ◌∙◌}
use Rattle.std.specs.Prelude.{pos}
use Rattle.std.proofs.lemmas.Int.{to_z-of_z}
use Rattle.std.proofs.lemmas.List.{length-map}
use mir.Syntax.{w128}
use Rattle.node_pool.proofs.NodeLists.{number-read}
use Rattle.stage_network.proofs.RowLines.{cells-more}
use Rattle.stage_network.proofs.row_ends.push_row.Goals as goal

pub loop-i-preserved : goal.loop-i-preserved
loop-i-preserved g c =
    let num = g.C.Count.number in
    let xs = map num c.args.cells.now in
    let s = pos c.args.stride in
    let i = c.loop-i.i in
    let l = to_z-of_z w128 c.args.lowest c.ranges.lowest in
    let r = c.args.room.now in
    let low : i < length xs = rw (length-map c.args.cells.now num) c.loop-i-test.true in
    let read : num c.index-cells-i.result ≡ get_or xs i 0 = number-read num c.args.cells.now i c.index-cells-i.result c.loop-i-test.true c.index-cells-i.is in
    record {
      nodes = rw l (cells-more r c.args.lowest s xs i low c.args.nodes.now.nodes c.loop-i.nodes.nodes c.push_cell.new.nodes.nodes c.loop-i.nodes.room (num c.index-cells-i.result) c.loop-i.invariant.room read (rw l at c.loop-i.invariant.nodes) (rw l at c.in_ok-push_cell.ensures.nodes));
      room = c.in_ok-push_cell.ensures.room ∙ c.loop-i.invariant.room;
      named = rw c.in_ok-push_cell.ensures.named c.loop-i.invariant.named;
      here = c.in_ok-push_cell.ensures.room_width ∙ c.loop-i.invariant.here;
      wide = c.in_ok-push_cell.ensures.width ∙ c.loop-i.invariant.wide;
    }
