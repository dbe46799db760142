use Rattle.worked_surface.proofs.Conditions.{may-pick-just}
use Rattle.worked_surface.proofs.sample_reader_calls.sequence.Goals as goal

pub sequence-requires : goal.sequence-requires
sequence-requires c = may-pick-just 1 c.args.picks.now c.requires.many c.requires.from_one c.requires.distinct
