-- The tests of a table: Fisher's exact test, the linear-by-linear test, and Fisher's with odds.
use Rattle.weights.specs.Conditional.{ConditionalTest}
use Rattle.weights.specs.declared.tails.Tail.{Tail}
use Rattle.networks.specs.declared.one_of.OneOf.{OneOf}
use Rattle.networks.specs.Network.{Network}
use Rattle.networks.specs.OneOf.{of_either}
use Rattle.table_reader.specs.TableLayout.{TableData}
use Rattle.fisher_test.specs.FisherExact.{fisher_test}
use Rattle.fisher_test.specs.FisherNetworks.{fisher_network}
use Rattle.two_by_two.specs.FisherOdds.{WeightedTable, odds_test}
use Rattle.two_by_two.specs.OddsNetworks.{odds_network}
use Rattle.linear_by_linear.specs.LinearByLinear.{ScoredTable, linear_test}
use Rattle.linear_by_linear.specs.LinearNetworks.{linear_network}

abbrev pub table_test : OneOf (OneOf TableData ScoredTable) WeightedTable → ConditionalTest
table_test = of_either (of_either fisher_test linear_test) odds_test

abbrev pub table_network : OneOf (OneOf TableData ScoredTable) WeightedTable → Tail → Network
table_network = of_either (of_either fisher_network linear_network) odds_network
