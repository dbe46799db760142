use Rattle.std.proofs.Common.{sym}
use Rattle.worked_surface.proofs.OneTossLaws.{rest-first, rest-end}
use Rattle.worked_surface.proofs.one_toss.OneTossStages.rest.Goals as goal

pub returns-then-stage-eq0 : goal.returns-then-stage-eq0
returns-then-stage-eq0 c = sym (rest-first c.args.stage c.args._key.now c.if-stage-eq0.true)

pub returns-else-stage-eq0 : goal.returns-else-stage-eq0
returns-else-stage-eq0 c = sym (rest-end c.args.stage c.args._key.now c.if-stage-eq0.false)
