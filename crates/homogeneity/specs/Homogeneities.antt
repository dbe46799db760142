-- The tests over strata: whether the odds ratio is the same in all, or of two samples by ranks.
use Rattle.std.specs.Prelude.{ℕ, List}
use Rattle.weights.specs.Conditional.{ConditionalTest}
use Rattle.weights.specs.declared.tails.Tail.{Tail}
use Rattle.sample_reader.specs.StrataGroups.{StrataGroupData}
use Rattle.networks.specs.declared.one_of.OneOf.{OneOf}
use Rattle.networks.specs.Network.{Network}
use Rattle.networks.specs.OneOf.{of_either}
use Rattle.zelen_test.specs.Zelen.{zelen_test}
use Rattle.zelen_test.specs.ZelenNetwork.{zelen_network}
use Rattle.stratified_ranks.specs.RankNetworks.{stratified_rank_network}
use Rattle.stratified_ranks.specs.StratifiedRanks.{stratified_rank_test}

abbrev pub homogeneity_test : OneOf (List ℕ) StrataGroupData → ConditionalTest
homogeneity_test = of_either zelen_test stratified_rank_test

abbrev pub homogeneity_network : OneOf (List ℕ) StrataGroupData → Tail → Network
homogeneity_network = of_either zelen_network stratified_rank_network
