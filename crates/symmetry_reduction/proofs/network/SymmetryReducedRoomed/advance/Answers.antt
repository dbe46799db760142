use Rattle.std.proofs.Common.{◌≡◌, ◌∙◌, ◌++◌, ◌+◌, List, ap, drop, length, sym, take, arith}
use Rattle.std.specs.Prelude.{ℤ}
use Rattle.networks.specs.Network.{Network}
use Rattle.room_network.specs.Meanings.{Meaning}
use Rattle.room_network.specs.RoomNetworks.{room_network}
use Rattle.symmetry_reduction.specs.OrderedGroups.{groups_in_order}
use Rattle.symmetry_reduction.proofs.ReducedParts.{in-next, step-back, step-front, step-long}
use Rattle.symmetry_reduction.proofs.network.SymmetryReducedRoomed.advance.Goals as goal

pub behind-inner-requires : goal.behind-inner-requires
behind-inner-requires g c =
    step-long c.self.invariant c.args.stage c.args.room.now c.args.choice.now c.args.step.now (rw (← c.self.view_is) at c.requires.room) (rw (← c.self.view_is) at c.requires.step)

pub front-requires : goal.front-requires
front-requires g c =
    step-long c.self.invariant c.args.stage c.args.room.now c.args.choice.now c.args.step.now (rw (← c.self.view_is) at c.requires.room) (rw (← c.self.view_is) at c.requires.step)

pub advance-requires-clause-reached : goal.advance-requires-clause-reached
advance-requires-clause-reached g c = c.self.invariant.ordered.reached c.args.stage (c.args.room.now ++ c.args.partial.now) (rw (← c.self.view_is) at c.requires.reached)

pub advance-requires-clause-step : goal.advance-requires-clause-step
advance-requires-clause-step g c =
    c.behind-inner.ensures ∙ ap (drop (length c.args.room.now)) (rw (← c.self.view_is) at c.requires.step)
    ∙ step-back c.self.invariant c.args.stage c.args.room.now c.args.choice.now (rw (← c.self.view_is) at c.requires.room)

pub put_sums_in_order-requires-clause-few : goal.put_sums_in_order-requires-clause-few
put_sums_in_order-requires-clause-few g c = rw c.as_slice-sizes.ensures.value c.self.invariant.ordered.few

pub put_sums_in_order-requires-clause-left : goal.put_sums_in_order-requires-clause-left
put_sums_in_order-requires-clause-left g c =
    let long : length c.args.room.now ≡ (g.M.Measure.meaning c.self.inside.stages.1).floor.width = rw (← c.self.view_is) at c.requires.room in
    c.front.ensures.long ∙ long ∙ c.self.invariant.its_rooms.width ∙ sym (ap length c.as_slice-sizes.ensures.value)

pub put_sums_in_order-requires-clause-partial : goal.put_sums_in_order-requires-clause-partial
put_sums_in_order-requires-clause-partial g c =
    let i = c.self.invariant in
    let room : (g.M.Measure.meaning c.self.inside.stages.1).floor.width + length c.args.next.now ≡ (g.M.Measure.meaning c.self.inside.stages.1).floor.width + (g.M.Measure.meaning c.self.inside.stages.1).slots = rw (← c.self.view_is) at c.requires.next in
    omega (arith, c.advance.auto.next, room, i.ordered.wide, i.its_rooms.width, ap length c.as_slice-sizes.ensures.value)

pub returns : goal.returns
returns g c =
    let s = c.self.inside in
    let sizes = s.sizes.items in
    let m : Meaning = g.M.Measure.meaning s.stages.1 in
    let n : Network = room_network m (g.R.Rooms.plan s.stages.0).weight in
    let step : c.args.step.now ≡ m.floor.next c.args.stage c.args.room.now c.args.choice.now ++ m.step c.args.stage c.args.room.now c.args.choice.now = rw (← c.self.view_is) at c.requires.step in
    let long : length c.args.room.now ≡ m.floor.width = rw (← c.self.view_is) at c.requires.room in
    let left : List ℤ = m.floor.next c.args.stage c.args.room.now c.args.choice.now in
    let front_is : c.front.result.now ≡ left = c.front.ensures.room ∙ ap (take (length c.args.room.now)) step ∙ step-front c.self.invariant c.args.stage c.args.room.now c.args.choice.now long in
    rw (← c.self.view_is)
    (c.put_sums_in_order.ensures
    ∙ ap (λ z. drop (length z) (groups_in_order s.order z (c.front.result.now ++ c.advance.new.next))) c.as_slice-sizes.ensures.value
    ∙ ap (λ q. drop (length sizes) (groups_in_order s.order sizes (q ++ c.advance.new.next))) front_is
    ∙ ap (λ q. drop (length sizes) (groups_in_order s.order sizes (left ++ q))) c.advance.ensures
    ∙ ap (λ q. drop (length sizes) (groups_in_order s.order sizes q)) (in-next c.self.invariant c.args.stage c.args.room.now c.args.partial.now c.args.choice.now long)
    ∙ ap (λ w. drop w (groups_in_order s.order sizes (n.next c.args.stage (c.args.room.now ++ c.args.partial.now) c.args.choice.now))) (sym c.self.invariant.its_rooms.width))
