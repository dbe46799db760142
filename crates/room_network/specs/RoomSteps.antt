-- Words for the bodies: what the parts of a network of rooms are known to be.
use Rattle.room_network.specs.Meanings.{Meaning, IsMeasure}
use Rattle.room_network.specs.Plans.{Plan, IsPlan}
use Rattle.room_network.specs.RoomNetworks.{IsHoused}

pub record IsFounded (plan : Plan) (m : Meaning) : Type 0 where
  pub housed : IsHoused plan m
  pub plan_sound : IsPlan plan
  pub measure_sound : IsMeasure m
