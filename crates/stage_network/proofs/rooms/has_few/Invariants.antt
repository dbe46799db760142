use Rattle.std.proofs.Common.{◌≤◌, length}
use Rattle.stage_network.proofs.rooms.has_few.Given as goal

abbrev pub invariant-loop : goal.invariant-loop
invariant-loop l = l.place ≤ length l.arcs.arcs
