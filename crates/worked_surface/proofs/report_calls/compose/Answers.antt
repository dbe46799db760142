use Rattle.worked_surface.proofs.Conditions.{answer-quotients}
use Rattle.worked_surface.proofs.report_calls.compose.Goals as goal

pub compose-requires : goal.compose-requires
compose-requires c = answer-quotients c.args.answer.now c.requires.some c.requires.fits c.requires.less c.requires.greater c.requires.two
