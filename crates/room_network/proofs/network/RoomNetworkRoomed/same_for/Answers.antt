use Rattle.std.proofs.Common.{◌≡◌, List, ◌∷◌, [], sym, ◌∙◌, to_z, of_z}
use Rattle.std.specs.Prelude.{ℤ, pos, ◌+ℤ◌}
use mir.Syntax.{w128}
use Rattle.std.proofs.lemmas.Int.{to_z-of_z}
use Rattle.room_network.specs.Meanings.{AreReached, Meaning, verdict_at}
use Rattle.room_network.specs.Plans.{Plan}
use Rattle.room_network.proofs.NetworkParts.{room_reached, room_verdict}
use Rattle.room_network.proofs.network.RoomNetworkRoomed.same_for.Goals as goal

pub same_for-requires-clause-reached : goal.same_for-requires-clause-reached
same_for-requires-clause-reached g c =
    let m : Meaning = g.M.Measure.meaning c.self.inside.measure in
    let plan : Plan = g.R.Rooms.plan c.self.inside.rooms in
    let reached : AreReached m c.args.stage c.args.room.now (c.args.partial ∷ []) = room_reached plan m c.self.invariant c.args.stage c.args.room.now (c.args.partial ∷ []) (rw (← c.self.view_is) at c.requires.room) (rw (← c.self.view_is) at c.requires.reached) in
    rw (to_z-of_z w128 c.args.partial c.ranges.partial) reached

pub returns : goal.returns
returns g c = λ d few there.
    let m : Meaning = g.M.Measure.meaning c.self.inside.measure in
    let plan : Plan = g.R.Rooms.plan c.self.inside.rooms in
    let is : to_z w128 (of_z w128 c.args.partial) ≡ c.args.partial = to_z-of_z w128 c.args.partial c.ranges.partial in
    let told : verdict_at m c.args.tail c.args.stage c.args.room.now ((c.args.partial +ℤ pos d) ∷ []) ≡ verdict_at m c.args.tail c.args.stage c.args.room.now (c.args.partial ∷ []) = rw is at (c.same_for.ensures d few) in
    let verdict = λ (p : List ℤ). room_verdict m plan.weight c.args.tail c.args.stage c.args.room.now p (rw (← c.self.view_is) at c.requires.room) in
    rw (← c.self.view_is) (verdict ((c.args.partial +ℤ pos d) ∷ []) ∙ told ∙ sym (verdict (c.args.partial ∷ [])))
