use Rattle.worked_surface.proofs.OneTossLaws.{sides-pending}
use Rattle.worked_surface.proofs.one_toss.OneTossStages.first_choice.Goals as goal

pub returns : goal.returns
returns c = rw c.write_side.ensures (sides-pending c.args.stage c.args._key.now)
