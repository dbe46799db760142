-- What a table's weight over sorted rooms is multiplied by passes no limit.
use Rattle.std.proofs.Common.{◌≡◌, ℕ, List, drop, sym}
use Rattle.std.specs.Prelude.{ℤ, pos}
use Rattle.networks.specs.declared.verdicts.Judge.{Judge}
use Rattle.room_network.specs.Meanings.{AreReached}
use Rattle.room_network.specs.Numbers.{IsScalar, IsOutcome, so_far}
use Rattle.room_network.specs.declared.numbers.Operation.TheVariants.{Product}
use Rattle.completion_bounds.specs.Fillings.{falling}
use Rattle.label_network.specs.Meanings.{sizes_in}
use Rattle.sorted_tables.specs.SortedRooms.{sorted_floor}
use Rattle.fisher_test.specs.SortedWeighing.{sharper_high, sharper_low, sorted_meaning, sorted_numbers}
use Rattle.fisher_test.specs.WeightSteps.{IsWeightKey, IsWeightMeasure}
use Rattle.fisher_test.proofs.SharperFactors.{high-most, low-most}
use Rattle.fisher_test.proofs.SortedNarrows.{sorted_key, sorted_measure, sorted_move}
use Rattle.fisher_test.proofs.WeightKeys.{outcome, step-weights}

module _ (rows columns : List ℕ) (width falling_width : ℕ) (highs : List ℕ) (judge : Judge) (h : IsWeightMeasure rows columns width falling_width highs judge) (falls : falling rows ≡ rows) where
  key : (g : ℕ) (room p : List ℤ) → AreReached (sorted_meaning rows columns judge) g room p → IsWeightKey rows columns g room p
  key g room p r = sorted_key rows columns judge h.weighing.level h.weighing.some falls g room p r

  low-outcome : (g : ℕ) (room p : List ℤ) → IsWeightKey rows columns g room p → IsOutcome Product judge (so_far p) (pos (sharper_low columns g (sizes_in room)))
  low-outcome g room p k = outcome rows columns width falling_width highs judge h g room p k _ (low-most (drop g columns) (sizes_in room) (sym k.level))

  high-outcome : (g : ℕ) (room p : List ℤ) → IsWeightKey rows columns g room p → IsOutcome Product judge (so_far p) (pos (sharper_high columns g (sizes_in room)))
  high-outcome g room p k = outcome rows columns width falling_width highs judge h g room p k _ (high-most (drop g columns) (sizes_in room))

  pub sorted_number : IsScalar (sorted_floor columns rows) (sorted_numbers columns judge)
  sorted_number = record {
    narrows = sorted_measure rows columns judge h.weighing.level h.weighing.some falls;
    steps = λ g room c p v.
        let move = sorted_move rows columns judge h.weighing.level h.weighing.some falls g room c p v in
        step-weights rows columns width falling_width highs judge h g room p move.place move.before c move.allowed;
    lows = λ g room p r. low-outcome g room p (key g room p r);
    highs = λ g room p r. high-outcome g room p (key g room p r);
  }
