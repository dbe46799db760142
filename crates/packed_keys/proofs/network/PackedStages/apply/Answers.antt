use Rattle.std.proofs.Common.{List, ℤ, subst, sym}
use Rattle.std.specs.List.{Contains}
use Rattle.networks.specs.Network.{Network, IsReached}
use Rattle.packed_keys.proofs.PackedParts.{next-digits}
use Rattle.packed_keys.proofs.network.PackedStages.apply.Goals as goal

pub pack_key-requires-clause-digits : goal.pack_key-requires-clause-digits
pack_key-requires-clause-digits g c =
    let n : Network = g.S.Stages.network c.self.inside.stages in
    let reached : IsReached n c.args.stage c.read-here.result.now = rw (← c.self.view_is) at c.read-here.ensures.reached in
    let allowed : Contains (n.choices c.args.stage c.read-here.result.now) c.args.choice.now =
    subst (λ (key : List ℤ). Contains (n.choices c.args.stage key) c.args.choice.now) (sym (rw (← c.self.view_is) at c.read-here.ensures.is)) (rw (← c.self.view_is) at c.requires.allowed) in
    rw (c.room_width.ensures.width, c.apply-weight.ensures.next)
    (next-digits c.self.invariant c.args.stage c.read-here.result.now c.args.choice.now reached (rw (← c.self.view_is) at c.requires.before) allowed)
