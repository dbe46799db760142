use Rattle.std.proofs.Common.{◌∙◌, ap, length, refl}
use Rattle.symmetry_reduction.specs.OrderedGroups.{groups_in_order}
use Rattle.room_network.specs.RoomNetworks.{room_network}
use Rattle.symmetry_reduction.proofs.network.SymmetryReducedStages.first_key.Goals as goal

pub put_groups_in_order-requires-clause-few : goal.put_groups_in_order-requires-clause-few
put_groups_in_order-requires-clause-few g c = rw c.as_slice.ensures.value c.self.invariant.ordered.few

pub put_groups_in_order-requires-clause-whole : goal.put_groups_in_order-requires-clause-whole
put_groups_in_order-requires-clause-whole g c =
    rw c.as_slice.ensures.value
    (ap length c.first_key.ensures ∙ c.stages-lawful.ensures.lawful.long 0 (room_network (g.M.Measure.meaning c.self.inside.stages.1) (g.R.Rooms.plan c.self.inside.stages.0).weight).first refl ∙ c.self.invariant.ordered.wide)

pub returns : goal.returns
returns g c =
    rw (← c.self.view_is)
    (c.put_groups_in_order.ensures
    ∙ ap (λ ns. groups_in_order c.self.inside.order ns c.first_key.new.key) c.as_slice.ensures.value
    ∙ ap (groups_in_order c.self.inside.order c.self.inside.sizes.items) c.first_key.ensures)
