use Rattle.std.proofs.Common.{◌≡◌, ◌-◌, ◌^◌, ◌+◌, ◌∙◌, ap, rules, subst, sym}
use Rattle.networks.specs.Network.{IsReached, Network}
use Rattle.packed_keys.specs.PackedKeys.{unpacked_key}
use Rattle.packed_keys.proofs.PackedParts.{packed-long, read-reached}
use Rattle.packed_keys.proofs.network.Packed.read.Goals as goal

pub unpack_key-requires-clause-packed : goal.unpack_key-requires-clause-packed
unpack_key-requires-clause-packed g c =
    packed-long c.self.invariant c.args._stage c.args.packed.now (rw (← c.self.view_is) at c.requires)
    ∙ ap (λ w. w + 1) (sym c.room_width.ensures.width)

pub returns-clause-reached : goal.returns-clause-reached
returns-clause-reached g c =
    let n : Network = g.S.Stages.network c.self.inside.stages in
    let w = g.S.Roomed.room_width c.self.inside.stages in
    let is : c.unpack_key.new.key ≡ unpacked_key w (2 ^ c.self.inside.bits) (n.width - w) c.args.packed.now = search rules in
    rw (← c.self.view_is)
    (subst (IsReached n c.args._stage) (sym is)
    (read-reached c.self.invariant c.args._stage c.args.packed.now (rw (← c.self.view_is) at c.requires)))
