use Rattle.std.proofs.Common.{◌≡◌, ◌+◌, ◌*◌, ◌≤◌, ◌++◌, List, length, drop, ap, sym, ◌∙◌, arith}
use Rattle.std.proofs.lemmas.List.{with_items_is}
use Rattle.node_pool.specs.Nodes.{Node, weighted}
use Rattle.node_runs.specs.Runs.{loose_nodes}
use Rattle.stage_network.proofs.Roomwise.{segment-all}
use Rattle.stage_network.proofs.OneArc.{start-arc, start-reached, start-allowed, start-more, start-fits, start-heavy}
use Rattle.stage_network.proofs.rooms.RoomPool.pour.Goals as goal

pub step-requires-clause-arc : goal.step-requires-clause-arc
step-requires-clause-arc g c =
    let r = c.requires in
    start-arc _ _ _ _ r.here.shape.room_width _ r.here.nodes _ _ _ _ r.chosen r.run _ c.room-room.ensures.room c.room-room.ensures.wide

pub advance-requires-clause-reached : goal.advance-requires-clause-reached
advance-requires-clause-reached g c =
    let r = c.requires in
    start-reached _ _ _ _ r.here.shape.room_width _ r.here.nodes _ _ _ _ r.chosen r.run _ c.room-room.ensures.room _ c.loop-i.invariant.from c.loop-i-test.true _ c.partial.ensures.partial

pub advance-requires-clause-allowed : goal.advance-requires-clause-allowed
advance-requires-clause-allowed g c =
    let r = c.requires in
    start-allowed _ _ _ _ r.here.shape.room_width _ r.here.nodes _ _ _ _ r.chosen r.run _ c.room-room.ensures.room _ c.loop-i.invariant.from c.loop-i-test.true _ c.partial.ensures.partial

pub scaled-requires : goal.scaled-requires
scaled-requires g c =
    let r = c.requires in
    let fits = start-fits _ _ _ _ r.here.shape.room_width _ r.here.nodes _ _ _ _ r.chosen r.run _ c.room-room.ensures.room _ c.loop-i.invariant.from c.loop-i-test.true _ c.partial.ensures.partial _ c.weight.ensures (λ k. 1) in
    record { limit = omega (arith, fits, r.light.limit); fits = omega (arith, fits, r.light.fits) }

pub add_or_keep-requires-clause-fits : goal.add_or_keep-requires-clause-fits
add_or_keep-requires-clause-fits g c =
    let r = c.requires in
    omega (
      arith,
      start-fits _ _ _ _ r.here.shape.room_width _ r.here.nodes _ _ _ _ r.chosen r.run _ c.room-room.ensures.room _ c.loop-i.invariant.from c.loop-i-test.true _ c.partial.ensures.partial _ c.weight.ensures (λ k. 1),
      r.light.limit,
      c.scaled.ensures,
      c.loop-i.invariant.told (λ k. 1),
    )

pub loop-i-preserved : goal.loop-i-preserved
loop-i-preserved g c =
    let r = c.requires in
    let w = g.S.Roomed.room_width c.args.stages.now in
    let number = g.C.Count.number in
    let count = number c.weight.result in
    let reached = drop w ((g.S.Stages.network c.args.stages.now).next c.args.stage (c.room-room.result.now ++ c.partial.result.now) c.args.choice.now) in
    let buffer = c.loop-i.self.next in
    let long : length c.advance.new.next ≡ length buffer.items = c.advance.auto.next ∙ ap length c.deref_mut-in-loop-i.ensures.value in
    let written = with_items_is buffer c.advance.new.next (long ∙ sym buffer.ok.0) in
    record {
      from = omega (arith, c.loop-i.invariant.from);
      told = λ f.
          let loose : List Node = loose_nodes number c.loop-i.self.loose.items in
          let loose' : List Node = loose_nodes number c.add_or_keep.new.loose.items in
          let summed : weighted f c.add_or_keep.new.pool.nodes + weighted f loose' ≡ weighted f c.loop-i.self.partials.nodes + weighted f loose + (count * c.args.arc.weight) * f reached =
          c.in_ok-add_or_keep.ensures.added.sums f
          ∙ ap (λ m. weighted f c.loop-i.self.partials.nodes + weighted f loose + m * f c.deref-in-loop-i.result.now) c.scaled.ensures
          ∙ ap (λ k. weighted f c.loop-i.self.partials.nodes + weighted f loose + (count * c.args.arc.weight) * f k) (c.deref-in-loop-i.ensures.value ∙ written ∙ c.advance.ensures) in
          omega (arith, summed, start-more _ _ _ _ r.here.shape.room_width _ r.here.nodes _ _ _ _ r.chosen r.run _ c.room-room.ensures.room _ c.loop-i.invariant.from c.loop-i-test.true _ c.partial.ensures.partial _ c.weight.ensures (λ k. f (drop w k)), c.loop-i.invariant.told f);
      heavy = λ h.
          let before = c.loop-i.invariant.heavy h in
          c.in_ok-add_or_keep.ensures.added.heavy
          (rw c.scaled.ensures (start-heavy _ _ _ _ r.here.shape.room_width _ r.here.nodes _ _ _ _ r.chosen r.run _ c.room-room.ensures.room _ c.loop-i.invariant.from c.loop-i-test.true _ c.partial.ensures.partial _ c.weight.ensures))
          before.0 before.1;
      one = λ some. c.in_ok-add_or_keep.ensures.width ∙ c.in_ok-add_or_keep.ensures.one c.loop-i.invariant.one some;
      fitted = record {
        wide = ap (λ m. w + m) c.in_ok-add_or_keep.ensures.width ∙ c.loop-i.invariant.fitted.wide;
        step = c.loop-i.invariant.fitted.step;
        next = ap length written ∙ long ∙ c.loop-i.invariant.fitted.next ∙ sym c.in_ok-add_or_keep.ensures.width;
      };
      step = c.loop-i.invariant.step;
    }

pub add_loose-requires-clause-fits : goal.add_loose-requires-clause-fits
add_loose-requires-clause-fits g c =
    let arc = c.args.arc in
    let low : arc.end ≤ c.loop-i.i = omega (arith, c.loop-i-test.false) in
    let nodes = c.args.nodes.now.nodes in
    let all = segment-all arc.start arc.end c.loop-i.i nodes c.requires.chosen.order c.requires.chosen.last low in
    omega (arith, (rw all at c.loop-i.invariant.told) (λ k. 1), c.requires.light.limit)

pub returns-clause-told : goal.returns-clause-told
returns-clause-told g c = λ f.
    let arc = c.args.arc in
    let low : arc.end ≤ c.loop-i.i = omega (arith, c.loop-i-test.false) in
    let nodes = c.args.nodes.now.nodes in
    let all = segment-all arc.start arc.end c.loop-i.i nodes c.requires.chosen.order c.requires.chosen.last low in
    omega (arith, c.in_ok-add_loose.ensures.poured.sums f, (rw all at c.loop-i.invariant.told) f)
