-- The networks of Fisher's test, under one type.
use Rattle.label_network.specs.declared.linear_network.LinearStages.{LinearStages}
use Rattle.label_network.specs.declared.rooms.LabelRooms.{LabelRooms}
use Rattle.sorted_tables.specs.declared.rooms.SortedRooms.{SortedRooms}
use Rattle.fisher_test.specs.declared.fisher_stages.FisherStages.{FisherStages}
use Rattle.fisher_test.specs.declared.fisher_stages.FisherStages.TheVariants.{Cell, Weight, Sorted}
use Rattle.fisher_test.specs.declared.sorted_weights.SortedWeights.{SortedWeights}
use Rattle.fisher_test.specs.declared.weight_measure.WeightMeasure.{WeightMeasure}

-- what is said of the one that it is
abbrev pub of_kind :
    {X : Type 0} → (LinearStages → X) → (LabelRooms × WeightMeasure → X)
    → (SortedRooms × SortedWeights → X) → FisherStages → X
of_kind f g h (Cell n) = f n
of_kind f g h (Weight n) = g n
of_kind f g h (Sorted n) = h n
