use Rattle.std.proofs.Common.{arith}
use Rattle.worked_networks.proofs.DrawLaws.{first-total, found, last-total, then-total}
use Rattle.worked_networks.proofs.draws.DrawRoomsRooms.rest.Goals as goal

pub returns-then-stage-eq0 : goal.returns-then-stage-eq0
returns-then-stage-eq0 c = first-total c.args.stage c.args._room.now (found c.args.stage c.args._room.now c.requires) c.if-stage-eq0.true

pub returns-then-stage-eq1 : goal.returns-then-stage-eq1
returns-then-stage-eq1 c = then-total c.args.stage c.args._room.now (found c.args.stage c.args._room.now c.requires) c.if-stage-eq1.true

pub returns-else-stage-eq1 : goal.returns-else-stage-eq1
returns-else-stage-eq1 c = last-total c.args.stage c.args._room.now (found c.args.stage c.args._room.now c.requires) (omega (arith, c.if-stage-eq0.false, c.if-stage-eq1.false))
