use Rattle.worked_surface.proofs.Conditions.{may-pick-just}
use Rattle.worked_surface.proofs.sample_reader_calls.twins.Goals as goal

pub twins-requires : goal.twins-requires
twins-requires c = may-pick-just 2 c.args.picks.now c.requires.many c.requires.from_one c.requires.distinct
