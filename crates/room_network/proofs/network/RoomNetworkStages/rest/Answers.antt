use Rattle.room_network.proofs.NetworkParts.{Parts, parts}
use Rattle.room_network.proofs.network.RoomNetworkStages.rest.Given.{Over}
use Rattle.room_network.proofs.network.RoomNetworkStages.rest.Goals as goal
use Rattle.room_network.proofs.network.RoomNetworkStages.rest.Goals.{After-width}

here : (g : Over) (c : After-width g) → Parts (g.R.Rooms.plan c.self.inside.rooms) (g.M.Measure.meaning c.self.inside.measure) c.args.stage c.width.result c.args.key.now
here g c = parts _ _ c.self.invariant c.args.stage c.args.key.now (rw (← c.self.view_is) at c.requires) c.width.result c.width.ensures

pub front-requires : goal.front-requires
front-requires g c =
    (here g (goal.at.front-requires g c).After-width).short

pub rest-requires : goal.rest-requires
rest-requires g c =
    rw c.front.ensures.room (here g (goal.at.rest-requires g c).After-width).room

pub returns : goal.returns
returns g c =
    rw (← c.self.view_is, c.rest.ensures, c.front.ensures.room) (here g (goal.at.returns g c).After-width).total
