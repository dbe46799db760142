use Rattle.worked_surface.proofs.OneTossLaws.{one_toss-lawful}
use Rattle.worked_surface.proofs.one_toss.OneTossStages.stages.Goals as goal

pub returns-clause-lawful : goal.returns-clause-lawful
returns-clause-lawful c = one_toss-lawful
