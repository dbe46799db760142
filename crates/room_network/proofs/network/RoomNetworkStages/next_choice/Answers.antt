use Rattle.room_network.proofs.NetworkParts.{Parts, parts}
use Rattle.room_network.proofs.network.RoomNetworkStages.next_choice.Given.{Over}
use Rattle.room_network.proofs.network.RoomNetworkStages.next_choice.Goals as goal
use Rattle.room_network.proofs.network.RoomNetworkStages.next_choice.Goals.{After-width}

here : (g : Over) (c : After-width g) → Parts (g.R.Rooms.plan c.self.inside.rooms) (g.M.Measure.meaning c.self.inside.measure) c.args.stage c.width.result c.args.key.now
here g c = parts _ _ c.self.invariant c.args.stage c.args.key.now (rw (← c.self.view_is) at c.requires.reached) c.width.result c.width.ensures

pub front-requires : goal.front-requires
front-requires g c =
    (here g (goal.at.front-requires g c).After-width).short

pub next_choice-requires-clause-reached : goal.next_choice-requires-clause-reached
next_choice-requires-clause-reached g c =
    rw c.front.ensures.room (here g (goal.at.next_choice-requires-clause-reached g c).After-width).room
