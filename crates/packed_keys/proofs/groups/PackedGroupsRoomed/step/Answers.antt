use Rattle.std.proofs.Common.{refl}
use Rattle.symmetry_reduction.proofs.ReducedParts.{step-back, step-front}
use Rattle.packed_keys.proofs.GroupParts.{in-digits}
use Rattle.packed_keys.proofs.groups.PackedGroupsRoomed.step.Goals as goal

pub step-requires-clause-arc : goal.step-requires-clause-arc
step-requires-clause-arc g c = rw (← c.self.view_is) at c.requires.arc

pub write_shift-requires-clause-digits : goal.write_shift-requires-clause-digits
write_shift-requires-clause-digits g c =
    let i = c.self.invariant in
    let arc = rw (← c.self.view_is) at c.requires.arc in
    rw (c.bits.ensures, c.order-order.ensures, c.inner-groups.ensures, c.front-left.ensures.room, c.behind-added.ensures, c.step.ensures, step-front i.ordered c.args.stage c.args.room.now c.args.choice.now arc.wide, step-back i.ordered c.args.stage c.args.room.now c.args.choice.now arc.wide)
    (in-digits i c.args.stage c.args.room.now c.args.choice.now arc (rw (← c.self.view_is) at c.requires.before))

pub returns : goal.returns
returns g c =
    let i = c.self.invariant in
    let arc = rw (← c.self.view_is) at c.requires.arc in
    rw (← c.self.view_is, c.write_shift.ensures, c.bits.ensures, c.order-order.ensures, c.inner-groups.ensures, c.front-left.ensures.room, c.behind-added.ensures, c.step.ensures, step-front i.ordered c.args.stage c.args.room.now c.args.choice.now arc.wide, step-back i.ordered c.args.stage c.args.room.now c.args.choice.now arc.wide) refl
