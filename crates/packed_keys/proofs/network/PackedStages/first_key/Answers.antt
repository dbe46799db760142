use Rattle.packed_keys.proofs.PackedParts.{first-digits}
use Rattle.packed_keys.proofs.network.PackedStages.first_key.Goals as goal

pub pack_key-requires-clause-digits : goal.pack_key-requires-clause-digits
pack_key-requires-clause-digits g c =
    rw (c.room_width.ensures.width, c.first_key.ensures) (first-digits c.self.invariant)
