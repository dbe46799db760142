use Rattle.std.proofs.Common.{◌≡◌, ◌+◌, ◌-◌, ◌++◌, ℕ, List, [], length, map, get_or, take, drop, ap, sym, ◌∙◌, arith, refl, subst, to_z, of_z}
use Rattle.std.specs.Prelude.{ℤ, pos}
use Rattle.std.proofs.lemmas.List.{take_all, with_items_is}
use mir.Syntax.{w128}
use Rattle.node_pool.specs.Nodes.{weighted}
use Rattle.count_arrays.specs.Rows.{row_nodes}
use Rattle.count_arrays.proofs.RowNodes.{row-none}
use Rattle.stage_network.specs.ArcSteps.{IsPlace, spread_out, bucket, lift}
use Rattle.stage_network.proofs.Roomwise.{lift-weighted, whole-weighted}
use Rattle.stage_network.proofs.Gathered.{spread-here}
use Rattle.stage_network.proofs.OneArc.{no_arc, place_is}
use Rattle.stage_network.specs.RowSteps.{all_nodes}
use Rattle.stage_network.proofs.RowLines.{map-replicate}
use Rattle.stage_network.proofs.Shifted.{shift-low, shift-more}
use Rattle.stage_network.proofs.Spans.{no_row}
use Rattle.stage_network.proofs.row_filling.RoomRow.fill.Goals as goal

pub loop-place-init : goal.loop-place-init
loop-place-init g c =
    let num = g.C.Count.number in
    let L = to_z w128 (of_z w128 c.in_ok-lowest.lowest) in
    let S = pos c.in_ok-lowest.stride in
    let arcs = c.args.all.now.listed.arcs.arcs in
    let none : row_nodes L S (map num c.as_mut_slice-into.result.now) ≡ [] = ap (row_nodes L S) (ap (map num) (c.as_mut_slice-into.ensures.value ∙ c.in_ok-write_cells.ensures) ∙ map-replicate num c.in_ok-lowest.len c.args.self.now.none c.requires.ready.none) ∙ row-none L S c.in_ok-lowest.len in
    let here : bucket c.args.target (take c.first-place.result arcs) ≡ bucket c.args.target arcs = c.first-place.ensures.all ∙ ap (bucket c.args.target) (take_all (length arcs) arcs (omega arith)) in
    record {
      told = λ f.
          omega (arith, ap (weighted f) none, ap (λ ws. weighted (λ k. f (drop (g.S.Roomed.room_width c.args.stages.now) k)) (spread_out (g.S.Stages.network c.args.stages.now) c.args.stage (all_nodes c.args.rows.now.rows) ws)) here);
      low = c.first-place.ensures.low;
      here = c.first-place.ensures.here;
      long = refl;
    }

pub pour_row-requires : goal.pour_row-requires
pour_row-requires g c =
    let n = g.S.Stages.network c.args.stages.now in
    let w = g.S.Roomed.room_width c.args.stages.now in
    let rows = c.args.rows.now.rows in
    let r = c.requires in
    let i = c.loop-place.invariant in
    record {
      row = shift-low n c.args.stage w rows _ _ _ r.here.nodes r.listed.listed.arcs.fine r.listed.shifts c.args.target c.loop-place.place c.loop-place-test.true i.low i.here c.index.result.now c.index.ensures;
      light = λ d.
          let more = shift-more n c.args.stage w rows _ _ _ r.here.nodes r.listed.listed.arcs.fine r.listed.shifts c.args.target c.loop-place.place c.loop-place-test.true i.low i.here c.index.result.now c.index.ensures c.arc-arc.result.weight (c.arc-arc.ensures.weight no_arc) d (λ k. 1) in
          record { limit = omega (arith, more, i.told (λ k. 1), r.light.limit); fits = omega (arith, more, i.told (λ k. 1), r.light.fits) };
    }

pub loop-place-smaller : goal.loop-place-smaller
loop-place-smaller g c = omega (arith, (c.arc-arc.ensures.next no_arc).low, c.loop-place-test.true)

pub loop-place-preserved : goal.loop-place-preserved
loop-place-preserved g c =
    let n = g.S.Stages.network c.args.stages.now in
    let s = c.args.stage in
    let w = g.S.Roomed.room_width c.args.stages.now in
    let rows = c.args.rows.now.rows in
    let arcs = c.args.all.now.listed.arcs.arcs in
    let j = c.loop-place.place - 1 in
    let r = c.requires in
    let i = c.loop-place.invariant in
    let there : (get_or arcs j no_arc).target ≡ c.args.target = i.here j no_arc (place_is c.loop-place.place c.loop-place-test.true) in
    let place : IsPlace arcs (get_or arcs j no_arc).target j c.arc-arc.result.next = c.arc-arc.ensures.next no_arc in
    record {
      told = λ f.
          let left = ap (λ ws. weighted (λ k. f (drop w k)) (spread_out n s (all_nodes rows) ws)) (subst (λ t. bucket t (take c.arc-arc.result.next arcs) ≡ bucket t (take j arcs)) there place.all) in
          let more = shift-more n s w rows _ _ _ r.here.nodes r.listed.listed.arcs.fine r.listed.shifts c.args.target c.loop-place.place c.loop-place-test.true i.low i.here c.index.result.now c.index.ensures c.arc-arc.result.weight (c.arc-arc.ensures.weight no_arc) no_row f in
          omega (arith, c.in_ok-pour_row.ensures.told no_row f, more, left, i.told f);
      low = omega (arith, place.low, i.low);
      here = λ j e h. place.here j e h ∙ there;
      long = c.pour_row.ensures.long ∙ i.long;
    }

pub returns-clause-told : goal.returns-clause-told
returns-clause-told g c = λ d f.
    let n = g.S.Stages.network c.args.stages.now in
    let s = c.args.stage in
    let w = g.S.Roomed.room_width c.args.stages.now in
    let num = g.C.Count.number in
    let nodes = all_nodes c.args.rows.now.rows in
    let rooms = c.args.all.now.listed.rooms.nodes in
    let arcs = c.args.all.now.listed.arcs.arcs in
    let r : List ℤ = (get_or rooms c.args.target d).key in
    let L = to_z w128 (of_z w128 c.in_ok-lowest.lowest) in
    let S = pos c.in_ok-lowest.stride in
    let i = c.loop-place.invariant in
    let cells = c.write_cells.new.cells in
    let written = with_items_is cells c.loop-place.into (i.long ∙ ap length c.as_mut_slice-into.ensures.value ∙ sym cells.ok.0) in
    let told = (rw c.loop-place-test.false at i.told) (λ k. f (r ++ k)) in
    let there = spread-here n s w nodes rooms c.requires.here.nodes d c.args.target arcs c.requires.listed.listed.arcs.fine in
    ap (λ xs. weighted f (lift r (row_nodes L S (map num xs)))) written ∙ lift-weighted f r (row_nodes L S (map num c.loop-place.into)) ∙ none_left told ∙ whole-weighted w r f (spread_out n s nodes (bucket c.args.target arcs)) there
  where
    none_left : {x y : ℕ} → x + 0 ≡ y → x ≡ y
    none_left e = omega (arith, e)
