-- The tests of several samples: whether they differ, or whether samples in an order rise and fall.
use Rattle.weights.specs.Conditional.{ConditionalTest}
use Rattle.weights.specs.declared.tails.Tail.{Tail}
use Rattle.networks.specs.declared.one_of.OneOf.{OneOf}
use Rattle.networks.specs.Network.{Network}
use Rattle.networks.specs.OneOf.{of_either}
use Rattle.kruskal_wallis.specs.KruskalWallis.{ScoredGroups, kruskal_wallis_test}
use Rattle.ordered_samples.specs.PairCounts.{umbrella_network}
use Rattle.kruskal_wallis.specs.RankSums.{kruskal_wallis_network}
use Rattle.ordered_samples.specs.Umbrella.{PeakedGroups, umbrella_test}

abbrev pub k_sample_test : OneOf ScoredGroups PeakedGroups → ConditionalTest
k_sample_test = of_either kruskal_wallis_test umbrella_test

-- the network of a test
abbrev pub k_sample_network : OneOf ScoredGroups PeakedGroups → Tail → Network
k_sample_network = of_either kruskal_wallis_network umbrella_network
