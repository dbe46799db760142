-- The tests of sequences: of two values of each subject, or of two labels in an order.
use Rattle.weights.specs.Conditional.{ConditionalTest}
use Rattle.weights.specs.declared.tails.Tail.{Tail}
use Rattle.sample_reader.specs.Twins.{TwinData}
use Rattle.sample_reader.specs.Sequences.{SequenceData}
use Rattle.networks.specs.declared.one_of.OneOf.{OneOf}
use Rattle.networks.specs.Network.{Network}
use Rattle.networks.specs.OneOf.{of_either}
use Rattle.kendall_test.specs.Kendall.{kendall_test}
use Rattle.kendall_test.specs.KendallNetwork.{kendall_network}
use Rattle.runs_test.specs.RunNetwork.{running_runs, runs_network}
use Rattle.runs_test.specs.Runs.{runs_test}

abbrev pub sequence_test : OneOf TwinData SequenceData → ConditionalTest
sequence_test = of_either kendall_test runs_test

abbrev pub sequence_network : OneOf TwinData SequenceData → Tail → Network
sequence_network = of_either kendall_network runs_network

-- what runs
abbrev pub running_network : OneOf TwinData SequenceData → Tail → Network
running_network = of_either kendall_network running_runs
