use Rattle.packed_keys.proofs.PackedParts.{key-digits}
use Rattle.packed_keys.proofs.network.Packed.write.Goals as goal

pub pack_key-requires-clause-digits : goal.pack_key-requires-clause-digits
pack_key-requires-clause-digits g c =
    let there = rw (← c.self.view_is) at c.requires.reached in
    rw (c.room_width.ensures.width) (key-digits c.self.invariant there.0 c.args.key.now there.1)
