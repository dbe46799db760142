use Rattle.std.proofs.Common.{refl, subst, sym}
use Rattle.networks.specs.GoesOn.{GoesOn}
use Rattle.symmetry_reduction.specs.OrderedGroups.{groups_in_order}
use Rattle.symmetry_reduction.specs.ReducedNetworks.{reduced_network}
use Rattle.symmetry_reduction.specs.declared.orders.Order.{Order}
use Rattle.symmetry_reduction.specs.declared.orders.Order.TheVariants.{Sums}
use Rattle.networks.specs.Network.{Network}
use Rattle.networks.specs.Rooms.{IsRoomed}
use Rattle.room_network.specs.RoomNetworks.{room_network}
use Rattle.symmetry_reduction.proofs.ReducedKeys.{reduced-follows, reduced-goes_on, reduced-reached, reduced-values, stays-lawful}
use Rattle.symmetry_reduction.proofs.network.SymmetryReduced.new.Goals as goal

pub returns-clause-ends : goal.returns-clause-ends
returns-clause-ends g c = reduced-values c.args.order c.requires.ordered c.stages-lawful.ensures.lawful

pub returns-clause-follows : goal.returns-clause-follows
returns-clause-follows g c = reduced-follows c.args.order c.requires.ordered c.stages-lawful.ensures.lawful

pub returns-clause-reached : goal.returns-clause-reached
returns-clause-reached g c = reduced-reached c.args.order c.requires.ordered c.stages-lawful.ensures.lawful

pub invariant_of-result : goal.invariant_of-result
invariant_of-result g c =
    let n : Network = room_network (g.M.Measure.meaning c.args.stages.1) (g.R.Rooms.plan c.args.stages.0).weight in
    record {
      its_rooms = c.requires.rooms;
      sound = c.stages-sound.ensures.sound;
      ordered = stays-lawful c.args.order c.requires.ordered c.stages-lawful.ensures.lawful (subst (IsRoomed n) c.requires.rooms.width c.room_width-roomed.ensures.roomed);
    }

pub returns-clause-goes_on : goal.returns-clause-goes_on
returns-clause-goes_on g c = λ is i h.
    let n : Network = room_network (g.M.Measure.meaning c.args.stages.1) (g.R.Rooms.plan c.args.stages.0).weight in
    let sizes = c.args.sizes.items in
    subst (λ (o : Order). GoesOn n (reduced_network o sizes n) i i (groups_in_order o sizes)) (sym is) (reduced-goes_on Sums c.requires.ordered c.stages-lawful.ensures.lawful i h (λ k r. refl))
