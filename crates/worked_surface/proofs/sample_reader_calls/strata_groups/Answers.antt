use Rattle.worked_surface.proofs.Conditions.{may-pick-just}
use Rattle.worked_surface.proofs.sample_reader_calls.strata_groups.Goals as goal

pub strata_groups-requires : goal.strata_groups-requires
strata_groups-requires c = may-pick-just 3 c.args.picks.now c.requires.many c.requires.from_one c.requires.distinct
