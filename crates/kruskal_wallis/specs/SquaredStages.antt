-- The networks of a test of Kruskal and Wallis, under one type.
use Rattle.std.specs.Prelude.{ℕ, ℤ, List}
use Rattle.symmetry_reduction.specs.declared.orders.Order.{Order}
use Rattle.label_network.specs.declared.rooms.LabelRooms.{LabelRooms}
use Rattle.kruskal_wallis.specs.declared.centred_sums.CentredSums.{CentredSums}
use Rattle.kruskal_wallis.specs.declared.rank_sums.RankSums.{RankSums}
use Rattle.kruskal_wallis.specs.declared.squared_stages.SquaredStages.{SquaredStages}
use Rattle.kruskal_wallis.specs.declared.squared_stages.SquaredStages.TheVariants.{Packed, Ordered, Written}

-- what is said of the one that it is
abbrev pub of_kind :
    {X : Type 0} → ((LabelRooms × CentredSums × List ℕ × Order) × ℕ → X)
    → (LabelRooms × RankSums × List ℕ × Order → X) → (LabelRooms × RankSums → X)
    → SquaredStages → X
of_kind f g h (Packed n) = f n
of_kind f g h (Ordered n) = g n
of_kind f g h (Written n) = h n

-- which keys of a stage it takes
abbrev pub taken_of_kind :
    ((LabelRooms × CentredSums × List ℕ × Order) × ℕ → ℕ → List ℤ → Type 0)
    → (LabelRooms × RankSums × List ℕ × Order → ℕ → List ℤ → Type 0)
    → (LabelRooms × RankSums → ℕ → List ℤ → Type 0) → SquaredStages → ℕ → List ℤ → Type 0
taken_of_kind f g h (Packed n) = f n
taken_of_kind f g h (Ordered n) = g n
taken_of_kind f g h (Written n) = h n
