use Rattle.std.proofs.Common.{◌≡◌, ◌<◌, ◌++◌, ℕ, List, length, map, get_or, ap, sym, ◌∙◌, arith, rules}
use Rattle.std.specs.Prelude.{ℤ, pos}
use Rattle.std.proofs.lemmas.Int.{to_z-of_z}
use mir.Syntax.{w128}
use Rattle.count_arrays.specs.Rows.{row_nodes}
use Rattle.stage_network.specs.ArcSteps.{lift}
use Rattle.stage_network.specs.RowSteps.{Row, row_whole}
use Rattle.stage_network.proofs.RowLines.{rows-more}
use Rattle.stage_network.proofs.row_ends.nodes_of.Goals as goal
use Rattle.stage_network.proofs.Spans.{no_row}

-- a row by its parts
row_is : (d : Row) (room : List ℤ) (lowest stride : ℤ) (cells : List ℕ) → room ≡ d.room → lowest ≡ d.lowest → stride ≡ d.stride → cells ≡ d.cells → lift room (row_nodes lowest stride cells) ≡ row_whole d
row_is d room lowest stride cells a b c e = ap (λ r. lift r (row_nodes lowest stride cells)) a ∙ ap (λ z. lift d.room (row_nodes z stride cells)) b ∙ ap (λ z. lift d.room (row_nodes d.lowest z cells)) c ∙ ap (λ xs. lift d.room (row_nodes d.lowest d.stride xs)) e

pub loop-i-preserved : goal.loop-i-preserved
loop-i-preserved g c =
    let rows = c.args.rows.now.rows in
    let i = c.loop-i.i in
    let low : i < length rows = omega (arith, c.loop-i-test.true, c.len-i-end.ensures) in
    let l = to_z-of_z w128 c.lowest.result (search rules) in
    let whole = row_is (get_or rows i no_row) c.room.result.now c.lowest.result (pos c.stride.result) (map g.C.Count.number c.cells.result.now) (c.room.ensures.room no_row) (c.lowest.ensures no_row) (c.stride.ensures no_row) (c.cells.ensures no_row) in
    record {
      nodes = (rw l at c.in_ok-push_row.ensures.nodes) ∙ ap (λ ns. c.loop-i.nodes.nodes ++ ns) whole ∙ ap (λ ns. ns ++ row_whole (get_or rows i no_row)) c.loop-i.invariant.nodes ∙ sym (rows-more rows i no_row low);
      here = c.in_ok-push_row.ensures.room_width ∙ c.loop-i.invariant.here;
      wide = c.in_ok-push_row.ensures.width ∙ c.loop-i.invariant.wide;
    }
