use Rattle.room_network.proofs.NetworkParts.{Parts, parts}
use Rattle.room_network.specs.Meanings.{IsEnd}
use Rattle.std.proofs.Common.{take, drop}
use Rattle.room_network.proofs.network.RoomNetworkStages.value.Given.{Over}
use Rattle.room_network.proofs.network.RoomNetworkStages.value.Goals as goal
use Rattle.room_network.proofs.network.RoomNetworkStages.value.Goals.{After-width}

here : (g : Over) (c : After-width g) → Parts (g.R.Rooms.plan c.self.inside.rooms) (g.M.Measure.meaning c.self.inside.measure) (g.M.Measure.meaning c.self.inside.measure).floor.count c.width.result c.args.key.now
here g c = parts _ _ c.self.invariant (g.M.Measure.meaning c.self.inside.measure).floor.count c.args.key.now (rw (← c.self.view_is) at c.requires) c.width.result c.width.ensures

pub behind-requires : goal.behind-requires
behind-requires g c =
    (here g (goal.at.behind-requires g c).After-width).short

pub value-requires : goal.value-requires
value-requires g c =
    let end : IsEnd (g.M.Measure.meaning c.self.inside.measure) (drop c.width.result c.args.key.now) = record {
      room = take c.width.result c.args.key.now;
      reached = (here g (goal.at.value-requires g c).After-width).reached;
    } in
    rw c.behind.ensures end
