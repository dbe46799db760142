use Rattle.kruskal_wallis.proofs.FittingKruskalWallis.{squares-sound}
use Rattle.kruskal_wallis.proofs.kruskal_wallis_ways.SquaredSumsLabelStatistic.sound.Goals as goal

pub returns : goal.returns
returns c = squares-sound c.args.self.now c.made-made.ensures.fitting
