use Rattle.worked_surface.proofs.Conditions.{may-pick}
use Rattle.worked_surface.proofs.sample_reader_calls.blocks.Goals as goal

pub blocks-requires : goal.blocks-requires
blocks-requires c = may-pick 2 8 c.args.picks.now c.requires.least c.requires.most c.requires.from_one c.requires.distinct
