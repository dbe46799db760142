use Rattle.std.proofs.Common.{◌≡◌, ◌-◌, ◌+◌, ◌^◌, ◌++◌, ◌∙◌, ℤ, List, [], ◌∷◌, ap, arith, drop, length, rules, subst, sym, FitsSigned}
use Rattle.std.specs.List.{Contains}
use mir.Syntax.{w128}
use Rattle.std.proofs.lemmas.Int.{to_z-of_z}
use Rattle.networks.specs.Network.{Network, IsReached}
use Rattle.packed_keys.specs.PackedKeys.{packed, unpacked}
use Rattle.packed_keys.proofs.DigitLists.{set-only}
use Rattle.packed_keys.proofs.PackedParts.{next-digits, next-packed, read-parts}
use Rattle.packed_keys.proofs.network.PackedRoomed.advance.Goals as goal

pub packed_number-requires : goal.packed_number-requires
packed_number-requires g c =
    let n : Network = g.S.Stages.network c.self.inside.stages in
    let w = g.S.Roomed.room_width c.self.inside.stages in
    let bits = c.self.inside.bits in
    let room : length c.args.room.now ≡ w = rw (← c.self.view_is) at c.requires.room in
    let is : c.read_partial-here.result.now ≡ unpacked (2 ^ bits) (n.width - w) c.args.partial.now = rw (← c.self.view_is) at c.read_partial-here.ensures.is in
    let here : IsReached n c.args.stage (c.args.room.now ++ c.read_partial-here.result.now) = rw (← c.self.view_is) at c.read_partial-here.ensures.reached in
    let allowed : Contains (n.choices c.args.stage (c.args.room.now ++ c.read_partial-here.result.now)) c.args.choice.now =
    subst (λ (key : List ℤ). Contains (n.choices c.args.stage key) c.args.choice.now)
    (read-parts c.self.invariant c.args.room.now c.args.partial.now room ∙ ap (λ p. c.args.room.now ++ p) (sym is))
    (rw (← c.self.view_is) at c.requires.allowed) in
    rw c.advance.ensures
    (next-digits c.self.invariant c.args.stage (c.args.room.now ++ c.read_partial-here.result.now) c.args.choice.now here (rw (← c.self.view_is) at c.requires.before) allowed)

pub returns : goal.returns
returns g c =
    let n : Network = g.S.Stages.network c.self.inside.stages in
    let w = g.S.Roomed.room_width c.self.inside.stages in
    let bits = c.self.inside.bits in
    let s : FitsSigned w128 c.packed_number.result = search rules in
    let room : length c.args.room.now ≡ w = rw (← c.self.view_is) at c.requires.room in
    let is : c.read_partial-here.result.now ≡ unpacked (2 ^ bits) (n.width - w) c.args.partial.now = rw (← c.self.view_is) at c.read_partial-here.ensures.is in
    let allowed : Contains (n.choices c.args.stage (c.args.room.now ++ unpacked (2 ^ bits) (n.width - w) c.args.partial.now)) c.args.choice.now =
    subst (λ (key : List ℤ). Contains (n.choices c.args.stage key) c.args.choice.now)
    (read-parts c.self.invariant c.args.room.now c.args.partial.now room)
    (rw (← c.self.view_is) at c.requires.allowed) in
    let next : w + length c.args.next.now ≡ w + 1 = rw (← c.self.view_is) at c.requires.next in
    rw (← c.self.view_is)
    (set-only c.args.next.now _ (omega (arith, next))
    ∙ ap (λ z. z ∷ []) (to_z-of_z w128 c.packed_number.result s ∙ c.packed_number.ensures)
    ∙ ap (packed (2 ^ bits)) (c.advance.ensures ∙ ap (λ p. drop w (n.next c.args.stage (c.args.room.now ++ p) c.args.choice.now)) is)
    ∙ sym (next-packed c.self.invariant c.args.stage c.args.room.now c.args.partial.now c.args.choice.now room (rw (← c.self.view_is) at c.requires.reached) (rw (← c.self.view_is) at c.requires.before) allowed))
