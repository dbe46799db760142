use Rattle.std.proofs.Common.{map}
use Rattle.std.specs.List.{range_with_len}
use Rattle.sample_reader.specs.Data.{strata_data_of}
use Rattle.stratified_ranks.specs.RankMade.{AreLists}
use Rattle.stratified_ranks.specs.StratifiedRanks.{stratum_subjects}
use Rattle.stratified_ranks.proofs.rank_strata.RankStrata.of.Given as goal

abbrev pub invariant-loop-stratum : goal.invariant-loop-stratum
invariant-loop-stratum l = AreLists (map (stratum_subjects (strata_data_of l.samples)) (range_with_len 0 l.stratum)) l.made
