use Rattle.sample_reader.specs.Data.{strata_data_of}
use Rattle.stratified_ranks.proofs.RankLimits.{ranks-are}
use Rattle.stratified_ranks.proofs.StrataSubjects.{usable-from}
use Rattle.stratified_ranks.proofs.rank_made.ranks_fit.Goals as goal

pub returns : goal.returns
returns c = ranks-are (strata_data_of c.args._samples.now) (usable-from c.args._samples.now) c.args._parts.now c.requires.parts c.requires.fits
