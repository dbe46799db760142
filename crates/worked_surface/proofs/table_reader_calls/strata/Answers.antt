use Rattle.worked_surface.proofs.Conditions.{may-pick-just}
use Rattle.worked_surface.proofs.table_reader_calls.strata.Goals as goal

pub strata-requires : goal.strata-requires
strata-requires c = may-pick-just 5 c.args.picks.now c.requires.many c.requires.from_one c.requires.distinct
