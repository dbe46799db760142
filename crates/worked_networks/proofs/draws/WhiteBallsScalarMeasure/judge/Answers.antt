use Rattle.worked_networks.proofs.DrawLaws.{white-number}
use Rattle.worked_networks.proofs.draws.WhiteBallsScalarMeasure.judge.Goals as goal

pub returns-clause-sound : goal.returns-clause-sound
returns-clause-sound c = white-number c.args.self.now.judge c.args.self.now.ruled
