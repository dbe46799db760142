use Rattle.packed_keys.proofs.PackedParts.{packed-roomed}
use Rattle.packed_keys.proofs.network.PackedRoomed.room_width.Goals as goal

pub returns-clause-roomed : goal.returns-clause-roomed
returns-clause-roomed g c =
    rw (← c.self.view_is)
    (packed-roomed c.self.invariant c.stages-lawful.ensures.lawful c.room_width.ensures.roomed)
