use Rattle.sample_reader.specs.Data.{strata_data_of}
use Rattle.stratified_ranks.proofs.RankLimits.{strata-facts}
use Rattle.stratified_ranks.proofs.StrataSubjects.{usable-from}
use Rattle.stratified_ranks.proofs.rank_made.strata_fit.Goals as goal

pub returns : goal.returns
returns c = strata-facts (strata_data_of c.args._samples.now) (usable-from c.args._samples.now)
