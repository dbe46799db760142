use Rattle.std.proofs.Common.{◌≡◌, ◌<◌, ◌+◌, ◌-◌, ◌++◌, ℕ, List, length, get_or, take, drop, ap, ◌∙◌, arith, subst}
use Rattle.std.specs.Prelude.{ℤ}
use Rattle.node_pool.specs.Nodes.{weighted}
use Rattle.stage_network.specs.ArcSteps.{IsPlace, spread_out, bucket}
use Rattle.stage_network.proofs.Roomwise.{fill-step, lift-weighted, whole-weighted}
use Rattle.stage_network.proofs.Gathered.{spread-here}
use Rattle.stage_network.proofs.OneArc.{no_arc, place_below, place_is, fine_is, nodes_are}
use Rattle.stage_network.proofs.rooms.RoomPool.fill.Goals as goal

pub pour-requires : goal.pour-requires
pour-requires g c =
    let n = g.S.Stages.network c.args.stages.now in
    let arcs = c.args.all.now.arcs.arcs in
    let i = c.loop-place.place - 1 in
    let place = c.loop-place.invariant in
    let low = place_below c.loop-place.place _ c.loop-place-test.true place.low in
    let fine = fine_is _ _ _ _ _ _ c.requires.arcs.fine i _ _ _ _ low c.arc-arc.ensures.start c.arc-arc.ensures.last c.arc-arc.ensures.weight c.choice.ensures.choice in
    let step = fill-step n c.args.stage c.args.nodes.now.nodes (λ k. 1) c.args.target arcs i c.loop-place.place no_arc low (place.here i no_arc (place_is c.loop-place.place c.loop-place-test.true)) (omega (arith, c.loop-place-test.true)) in
    let are = nodes_are n c.args.stage c.args.nodes.now.nodes arcs i _ _ _ _ c.arc-arc.ensures.start c.arc-arc.ensures.last c.arc-arc.ensures.weight c.choice.ensures.choice (λ k. 1) in
    record {
      here = c.requires.here;
      run = fine.run;
      chosen = fine.chosen;
      choice = c.choice.ensures.wide ∙ c.requires.arcs.wide;
      fitted = place.fitted;
      light = record { limit = omega (arith, are, place.told (λ k. 1), step, c.requires.light.limit); fits = omega (arith, are, place.told (λ k. 1), step, c.requires.light.fits) };
    }

pub loop-place-smaller : goal.loop-place-smaller
loop-place-smaller g c = omega (arith, (c.arc-arc.ensures.next no_arc).low, c.loop-place-test.true)

pub loop-place-preserved : goal.loop-place-preserved
loop-place-preserved g c =
    let n = g.S.Stages.network c.args.stages.now in
    let s = c.args.stage in
    let nodes = c.args.nodes.now.nodes in
    let arcs = c.args.all.now.arcs.arcs in
    let i = c.loop-place.place - 1 in
    let low : i < length arcs = place_below c.loop-place.place _ c.loop-place-test.true c.loop-place.invariant.low in
    let there : (get_or arcs i no_arc).target ≡ c.args.target = c.loop-place.invariant.here i no_arc (place_is c.loop-place.place c.loop-place-test.true) in
    let place : IsPlace arcs (get_or arcs i no_arc).target i c.arc-arc.result.next = c.arc-arc.ensures.next no_arc in
    let on : bucket c.args.target (take c.arc-arc.result.next arcs) ≡ bucket c.args.target (take i arcs) = subst (λ t. bucket t (take c.arc-arc.result.next arcs) ≡ bucket t (take i arcs)) there place.all in
    record {
      told = λ f.
          let f' : List ℤ → ℕ = λ k. f (drop (g.S.Roomed.room_width c.args.stages.now) k) in
          let left : weighted f' (spread_out n s nodes (bucket c.args.target (take c.arc-arc.result.next arcs))) ≡ weighted f' (spread_out n s nodes (bucket c.args.target (take i arcs))) = ap (λ ws. weighted f' (spread_out n s nodes ws)) on in
          let step = fill-step n s nodes f' c.args.target arcs i c.loop-place.place no_arc low there (omega (arith, c.loop-place-test.true)) in
          omega (arith, c.in_ok-pour.ensures.told f, nodes_are n s nodes arcs i _ _ _ _ c.arc-arc.ensures.start c.arc-arc.ensures.last c.arc-arc.ensures.weight c.choice.ensures.choice f', left, c.loop-place.invariant.told f, step);
      low = omega (arith, place.low, low);
      here = λ j e h. place.here j e h ∙ there;
      heavy = c.in_ok-pour.ensures.heavy c.loop-place.invariant.heavy;
      fitted = c.in_ok-pour.ensures.fitted;
    }

pub returns-clause-told : goal.returns-clause-told
returns-clause-told g c = λ d f.
    let n = g.S.Stages.network c.args.stages.now in
    let s = c.args.stage in
    let nodes = c.args.nodes.now.nodes in
    let w = g.S.Roomed.room_width c.args.stages.now in
    let rooms = c.args.all.now.rooms.nodes in
    let r : List ℤ = (get_or rooms c.args.target d).key in
    let told = (rw c.loop-place-test.false at c.loop-place.invariant.told) (λ k. f (r ++ k)) in
    let there = spread-here n s w nodes rooms c.requires.here.nodes d c.args.target c.args.all.now.arcs.arcs c.requires.arcs.fine in
    lift-weighted f r c.loop-place.self.partials.nodes ∙ none_left told ∙ whole-weighted w r f (spread_out n s nodes (bucket c.args.target c.args.all.now.arcs.arcs)) there
  where
    none_left : {x y : ℕ} → x + 0 ≡ y → x ≡ y
    none_left e = omega (arith, e)
