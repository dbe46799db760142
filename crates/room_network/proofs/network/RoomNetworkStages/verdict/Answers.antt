use Rattle.room_network.proofs.NetworkParts.{Parts, parts}
use Rattle.room_network.proofs.network.RoomNetworkStages.verdict.Given.{Over}
use Rattle.room_network.proofs.network.RoomNetworkStages.verdict.Goals as goal
use Rattle.room_network.proofs.network.RoomNetworkStages.verdict.Goals.{After-width-width}

here : (g : Over) (c : After-width-width g) → Parts (g.R.Rooms.plan c.self.inside.rooms) (g.M.Measure.meaning c.self.inside.measure) c.args.stage c.width-width.result c.args.key.now
here g c = parts _ _ c.self.invariant c.args.stage c.args.key.now (rw (← c.self.view_is) at c.requires) c.width-width.result c.width-width.ensures

pub front-requires : goal.front-requires
front-requires g c =
    (here g (goal.at.front-requires g c).After-width-width).short

pub verdict-requires : goal.verdict-requires
verdict-requires g c =
    rw (c.front.ensures.room, c.behind.ensures) (here g (goal.at.verdict-requires g c).After-width-width).reached
