use Rattle.std.proofs.Common.{length, arith}
use Rattle.stage_network.proofs.OneArc.{no_arc, place_below}
use Rattle.stage_network.proofs.rooms.has_few.Goals as goal

pub arc-place-requires : goal.arc-place-requires
arc-place-requires c = place_below c.loop.place (length c.args.arcs.now.arcs) c.if-place-eq0.false c.loop.invariant

pub loop-preserved : goal.loop-preserved
loop-preserved c = omega (arith, (c.arc-place.ensures.next no_arc).low, c.loop.invariant)
