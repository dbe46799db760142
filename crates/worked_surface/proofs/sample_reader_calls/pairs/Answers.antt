use Rattle.worked_surface.proofs.Conditions.{may-pick}
use Rattle.worked_surface.proofs.sample_reader_calls.pairs.Goals as goal

pub pairs-requires : goal.pairs-requires
pairs-requires c = may-pick 1 2 c.args.picks.now c.requires.least c.requires.most c.requires.from_one c.requires.distinct
