use Rattle.worked_surface.proofs.Conditions.{may-pick-just}
use Rattle.worked_surface.proofs.sample_reader_calls.groups.Goals as goal

pub groups-requires-clause-picks : goal.groups-requires-clause-picks
groups-requires-clause-picks c = may-pick-just 2 c.args.picks.now c.requires.many c.requires.from_one c.requires.distinct
