use Rattle.std.proofs.Common.{refl, ◌<◌, ◌≡◌, ◌+◌, ◌++◌, ◌∷◌, [], ℕ, List, length, get_or, ap, sym, ◌∙◌, arith, rules, to_z, of_z}
use Rattle.std.specs.Prelude.{ℤ, pos}
use Rattle.std.proofs.lemmas.Int.{to_z-of_z}
use Rattle.std.proofs.lemmas.List.{length-map, with_items_is}
use mir.Syntax.{w128}
use Rattle.count_arrays.specs.Rows.{row_nodes, stepped}
use Rattle.stage_network.proofs.Roomwise.{lift-length}
use Rattle.stage_network.specs.RowSteps.{Row, row_whole}
use Rattle.stage_network.proofs.Spans.{no_row, spans, first-key, before-more}
use Rattle.stage_network.proofs.Listing.{buffers-same}
use Rattle.stage_network.proofs.row_arcs.RowArcs.add_row.Goals as goal

-- the place behind the nodes of a row
to_is : (row : Row) (start end keys : ℕ) (cells : List ℕ) → end ≡ start + keys → ((lowest stride : ℤ) → keys ≡ length (row_nodes lowest stride cells)) → cells ≡ row.cells → end ≡ start + length (row_whole row)
to_is row start end keys cells e count is = e ∙ ap (λ m. start + m) (count row.lowest row.stride ∙ ap (λ ws. length (row_nodes row.lowest row.stride ws)) is ∙ sym (lift-length row.room (row_nodes row.lowest row.stride row.cells)))

pub returns-then-start-end-clause-end : goal.returns-then-start-end-clause-end
returns-then-start-end-clause-end g c =
    let rows = c.args.rows.now.rows in
    let to = to_is (get_or rows c.args.row no_row) c.args.start c.in_ok-end.end c.count_keys.result _ c.in_ok-end.ensures c.count_keys.ensures (c.cells-cells.ensures no_row) in
    omega (arith, to, c.requires.start, before-more rows c.args.row no_row c.requires.row)

pub add_arcs-requires : goal.add_arcs-requires
add_arcs-requires g c =
    let rows = c.args.rows.now.rows in
    let row = get_or rows c.args.row no_row in
    let width = g.S.Roomed.room_width c.args.stages.now in
    let r = c.requires.listed in
    let was = c.args.self.now.listed.key in
    let cells = c.cells-cells.ensures no_row in
    let room = c.room.ensures.room no_row in
    let to = to_is row c.args.start c.in_ok-end.end c.count_keys.result _ c.in_ok-end.ensures c.count_keys.ensures cells in
    let order : c.args.start < c.in_ok-end.end = omega (arith, to, c.if-start-end.false) in
    let written = with_items_is was c.write_key.new.key (c.write_key.auto.key ∙ ap length c.deref_mut.ensures.value ∙ sym was.ok.0) in
    let m = c.first_full.result in
    let p_is : to_z w128 (of_z w128 c.in_ok-partial.partial) ≡ stepped row.lowest row.stride m = to_z-of_z w128 c.in_ok-partial.partial (search rules) ∙ (rw (to_z-of_z w128 c.lowest.result (search rules)) at c.in_ok-partial.ensures) ∙ ap (λ z. stepped z (pos c.stride.result) m) (c.lowest.ensures no_row) ∙ ap (λ z. stepped row.lowest z m) (c.stride.ensures no_row) in
    let full = rw cells at c.first_full.ensures.full in
    let long : length c.cells-cells.result.now ≡ length row.cells = sym (length-map c.cells-cells.result.now g.C.Count.number) ∙ ap length cells in
    record {
      here = c.requires.here;
      row = c.requires.row;
      span = spans rows width c.args.row c.args.start c.in_ok-end.end no_row c.requires.row c.requires.start to order (ap length (sym room) ∙ c.room.ensures.wide ∙ c.requires.here.room_width);
      key = λ d. written ∙ c.write_key.ensures ∙ ap (λ x. c.room.result.now ++ x) (c.as_slice.ensures ∙ ap (λ z. z ∷ []) p_is) ∙ ap (λ r. r ++ stepped row.lowest row.stride m ∷ []) room
          ∙ sym (first-key rows width c.args.row c.args.start c.in_ok-end.end no_row c.requires.row c.requires.start to m order (rw cells at (c.first_full.ensures.empty row.lowest row.stride)) (λ h. full (omega (arith, h, long))) (omega (arith, c.first_full.ensures.within, long)) d no_row);
      listed = record {
        listed = record { fitted = buffers-same _ _ _ _ r.listed.fitted refl refl (ap length written ∙ c.write_key.auto.key ∙ ap length c.deref_mut.ensures.value) refl refl; light = r.listed.light; arcs = r.listed.arcs; told = r.listed.told };
        step = r.step;
        shifts = r.shifts;
      };
    }

pub returns-clause-end : goal.returns-clause-end
returns-clause-end g c =
    let rows = c.args.rows.now.rows in
    let to = to_is (get_or rows c.args.row no_row) c.args.start c.in_ok-end.end c.count_keys.result _ c.in_ok-end.ensures c.count_keys.ensures (c.cells-cells.ensures no_row) in
    omega (arith, to, c.requires.start, before-more rows c.args.row no_row c.requires.row)
