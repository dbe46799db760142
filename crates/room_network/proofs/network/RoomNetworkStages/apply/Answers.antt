use Rattle.room_network.proofs.NetworkParts.{Parts, parts}
use Rattle.room_network.proofs.RoomKeys.{is_allowed, weighed}
use Rattle.room_network.specs.Meanings.{IsMove, Meaning}
use Rattle.room_network.specs.Plans.{Floor, Plan}
use Rattle.std.proofs.Common.{◌≡◌, ◌∙◌, ap, take, drop}
use Rattle.room_network.proofs.network.RoomNetworkStages.apply.Given.{Over}
use Rattle.room_network.proofs.network.RoomNetworkStages.apply.Goals as goal
use Rattle.room_network.proofs.network.RoomNetworkStages.apply.Goals.{After-width-width}

here : (g : Over) (c : After-width-width g) → Parts (g.R.Rooms.plan c.self.inside.rooms) (g.M.Measure.meaning c.self.inside.measure) c.args.stage c.width-width.result c.args.key.now
here g c = parts _ _ c.self.invariant c.args.stage c.args.key.now (rw (← c.self.view_is) at c.requires.reached) c.width-width.result c.width-width.ensures

pub front-room-requires : goal.front-room-requires
front-room-requires g c =
    (here g (goal.at.front-room-requires g c).After-width-width).short

pub cross-weight-requires-clause-reached : goal.cross-weight-requires-clause-reached
cross-weight-requires-clause-reached g c =
    rw c.front-room.ensures.room (here g (goal.at.cross-weight-requires-clause-reached g c).After-width-width).room

pub advance-requires-clause-allowed : goal.advance-requires-clause-allowed
advance-requires-clause-allowed g c =
    let m : Meaning = g.M.Measure.meaning c.self.inside.measure in
    let plan : Plan = g.R.Rooms.plan c.self.inside.rooms in
    let width : c.width-width.result ≡ m.floor.width = c.width-width.ensures ∙ ap (λ (x : Floor). x.width) c.self.invariant.housed.floor_is in
    let move : IsMove m c.args.stage (take c.width-width.result c.args.key.now) c.args.choice.now (drop c.width-width.result c.args.key.now) = record {
      before = rw (← c.self.view_is) at c.requires.before;
      reached = (here g (goal.at.advance-requires-clause-allowed g c).After-width-width).reached;
      allowed = rw width (is_allowed (weighed m plan.weight) c.args.stage (take m.floor.width c.args.key.now) c.args.choice.now (rw (← c.self.view_is) at c.requires.before) (rw (← c.self.view_is) at c.requires.allowed));
    } in
    rw (c.front-room.ensures.room, c.behind.ensures) move
