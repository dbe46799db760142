use Rattle.worked_surface.proofs.Conditions.{are-quotients}
use Rattle.worked_surface.proofs.report_calls.compose_merged.Goals as goal

pub compose_merged-requires : goal.compose_merged-requires
compose_merged-requires c = are-quotients c.args.total c.args.less c.args.greater c.args.two c.requires.some c.requires.fits c.requires.less c.requires.greater c.requires.two
