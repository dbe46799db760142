use Rattle.std.proofs.Common.{subst, sym}
use Rattle.networks.specs.Network.{Network}
use Rattle.networks.specs.Rooms.{IsRoomed}
use Rattle.room_network.specs.RoomNetworks.{room_network}
use Rattle.symmetry_reduction.specs.ReducedNetworks.{reduced_network}
use Rattle.symmetry_reduction.proofs.network.SymmetryReducedRoomed.room_width.Goals as goal

pub returns-clause-roomed : goal.returns-clause-roomed
returns-clause-roomed g c =
    let i = c.self.invariant in
    let s = c.self.inside in
    let n : Network = room_network (g.M.Measure.meaning s.stages.1) (g.R.Rooms.plan s.stages.0).weight in
    rw (← c.self.view_is) (subst (IsRoomed (reduced_network s.order s.sizes.items n)) (sym i.its_rooms.width) i.ordered.roomed)
