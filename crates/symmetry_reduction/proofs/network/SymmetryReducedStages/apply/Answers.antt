use Rattle.std.proofs.Common.{◌∙◌, ◌+◌, ap, length}
use Rattle.networks.specs.Network.{Network}
use Rattle.networks.proofs.Steps.{reached-next}
use Rattle.room_network.specs.RoomNetworks.{room_network}
use Rattle.symmetry_reduction.specs.OrderedGroups.{groups_in_order}
use Rattle.symmetry_reduction.proofs.network.SymmetryReducedStages.apply.Goals as goal

pub apply-weight-requires-clause-reached : goal.apply-weight-requires-clause-reached
apply-weight-requires-clause-reached g c = c.self.invariant.ordered.reached c.args.stage c.args.key.now (rw (← c.self.view_is) at c.requires.reached)

pub put_groups_in_order-requires-clause-few : goal.put_groups_in_order-requires-clause-few
put_groups_in_order-requires-clause-few g c = rw c.as_slice.ensures.value c.self.invariant.ordered.few

pub put_groups_in_order-requires-clause-whole : goal.put_groups_in_order-requires-clause-whole
put_groups_in_order-requires-clause-whole g c =
    let n : Network = room_network (g.M.Measure.meaning c.self.inside.stages.1) (g.R.Rooms.plan c.self.inside.stages.0).weight in
    let r = c.self.invariant.ordered.reached c.args.stage c.args.key.now (rw (← c.self.view_is) at c.requires.reached) in
    rw c.as_slice.ensures.value
    (ap length c.apply-weight.ensures.next
    ∙ c.stages-lawful.ensures.lawful.long (c.args.stage + 1) (n.next c.args.stage c.args.key.now c.args.choice.now) (reached-next n c.args.stage c.args.key.now c.args.choice.now r (rw (← c.self.view_is) at c.requires.before) (rw (← c.self.view_is) at c.requires.allowed))
    ∙ c.self.invariant.ordered.wide)

pub returns-clause-next : goal.returns-clause-next
returns-clause-next g c =
    rw (← c.self.view_is)
    (c.put_groups_in_order.ensures
    ∙ ap (λ ns. groups_in_order c.self.inside.order ns c.apply-weight.new.next) c.as_slice.ensures.value
    ∙ ap (groups_in_order c.self.inside.order c.self.inside.sizes.items) c.apply-weight.ensures.next)
