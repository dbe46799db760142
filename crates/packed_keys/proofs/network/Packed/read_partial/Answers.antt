use Rattle.std.proofs.Common.{◌≡◌, ◌-◌, ◌^◌, ◌++◌, rules, subst, sym}
use Rattle.networks.specs.Network.{IsReached, Network}
use Rattle.packed_keys.specs.PackedKeys.{unpacked}
use Rattle.packed_keys.proofs.PackedParts.{one-number, parts-reached}
use Rattle.packed_keys.proofs.network.Packed.read_partial.Goals as goal

pub only-requires : goal.only-requires
only-requires g c =
    one-number c.self.invariant c.args._stage c.args._room.now c.args.packed.now (rw (← c.self.view_is) at c.requires.place) (rw (← c.self.view_is) at c.requires.reached)

pub returns-clause-reached : goal.returns-clause-reached
returns-clause-reached g c =
    let n : Network = g.S.Stages.network c.self.inside.stages in
    let w = g.S.Roomed.room_width c.self.inside.stages in
    let is : c.unpack.new.partial ≡ unpacked (2 ^ c.self.inside.bits) (n.width - w) c.args.packed.now = search rules in
    rw (← c.self.view_is)
    (subst (λ p. IsReached n c.args._stage (c.args._room.now ++ p)) (sym is)
    (parts-reached c.self.invariant c.args._stage c.args._room.now c.args.packed.now (rw (← c.self.view_is) at c.requires.place) (rw (← c.self.view_is) at c.requires.reached)))
