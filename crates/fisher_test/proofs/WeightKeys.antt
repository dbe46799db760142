-- What the keys of a table's weight have, as the bodies need it.
use Rattle.std.proofs.Common.{◌≡◌, ℕ, ◌*◌, ◌^◌, ◌<◌, ◌≤◌, min, List, length, drop, sym, ◌∙◌, ap, arith}
use Rattle.std.specs.Prelude.{ℤ, pos, slice_index}
use Rattle.std.specs.List.{sum, Contains}
use Rattle.std.proofs.Math.Nat.{mul-le-mul_left}
use Rattle.std.proofs.lemmas.List.Sums.{sum_by-take-drop}
use Rattle.networks.specs.declared.verdicts.Judge.{Judge}
use Rattle.weights.specs.declared.TheConstants.{MAX}
use Rattle.weights.specs.Grouped.{choices}
use Rattle.weights.specs.Labellings.{number_of_labellings}
use Rattle.weights.proofs.ChoiceLists.{IsChoice}
use Rattle.completion_bounds.specs.Fillings.{greatest_weight, product_by}
use Rattle.label_network.specs.LabelSteps.{IsHeld}
use Rattle.room_network.specs.Numbers.{so_far}
use Rattle.room_network.specs.Meanings.{AreReached, IsRoom, IsStep}
use Rattle.room_network.specs.Numbers.{AreWeights, IsScalar, IsOutcome}
use Rattle.room_network.specs.declared.numbers.Operation.TheVariants.{Product}
use Rattle.room_network.proofs.NumberLaws.{weights-of}
use Rattle.label_network.specs.LabelNetwork.{over_rooms, over_sizes}
use Rattle.label_network.specs.LabelRooms.{label_floor}
use Rattle.label_network.specs.Meanings.{IsPlace, sizes_in}
use Rattle.label_network.proofs.LinearKeys.{reached-stage}
use Rattle.label_network.proofs.Narrowing.{IsLeft, chosen}
use Rattle.label_network.proofs.OverRooms.{over_number, over_place}
use Rattle.label_network.proofs.Rows.{fits-long, length-abs}
use Rattle.label_network.proofs.Sizes.{fewer-labellings, fits-chain, held-within, sizes-of_pos}
use Rattle.fisher_test.specs.Weighing.{weight_meaning, weight_numbers}
use Rattle.fisher_test.specs.WeightSteps.{IsWeightKey, IsWeightMeasure, IsWeightRoom, IsWeightStep, WeightSeat, past_of}
use Rattle.fisher_test.proofs.FilledColumns.{high-at, roomy}
use Rattle.fisher_test.proofs.WeightNarrows.{greatest-most, least-most, reached_left, reached_product, weight_measure}

module _ (rows columns : List ℕ) (width falling_width : ℕ) (highs : List ℕ) (judge : Judge) (h : IsWeightMeasure rows columns width falling_width highs judge) where
  module _ (g : ℕ) (f p : List ℤ) (a : IsWeightKey rows columns g f p) where
    pub left : IsLeft (weight_meaning rows columns judge) g (sizes_in f)
    left = record { whole = a.level; within = a.within }

    few-ways : number_of_labellings (sizes_in f) ≤ MAX
    few-ways = omega (arith, fewer-labellings (sizes_in f) rows left.within, h.weighing.total_fits)

    product-fits : (m : ℕ) → m ≤ number_of_labellings (sizes_in f) → past_of p * m ≤ MAX
    product-fits m l = omega (arith, mul-le-mul_left (past_of p) l, a.product.small, h.weighing.total_fits)

    -- what such a product can be multiplied by
    pub outcome : (m : ℕ) → m ≤ number_of_labellings (sizes_in f) → IsOutcome Product judge (so_far p) (pos m)
    outcome m l = record {
      fits = weights-of (so_far p) (past_of p) m a.product.whole (product-fits m l);
      ruled = h.weighing.rules_fit (pos (past_of p * m)) (product-fits m l);
    }

    -- what is known of its sizes
    pub weight_seat : WeightSeat rows columns width falling_width highs g f
    weight_seat =
        let sizes : List ℕ = sizes_in f in
        let long : length f ≡ length rows = sym (length-abs f) ∙ fits-long sizes rows a.within in
        let small : sum sizes < 2 ^ 64 = omega (arith, a.level, h.weighing.level, h.weighing.units, sum_by-take-drop (λ v. v) columns g) in
        record {
          stage = a.stage;
          highs_long = omega (arith, h.highs_are.long);
          few = omega (arith, long, h.weighing.few);
          sizes = sizes-of_pos sizes small f a.whole;
          small = small;
          held = held-within width rows sizes a.within h.held;
          fits = few-ways;
          roomy = roomy falling_width rows sizes (omega (arith, length-abs f, long, h.weighing.some)) (omega (arith, length-abs f, long, h.weighing.few)) small few-ways a.within h.falling_held;
          level = sym a.level;
          least = omega (arith, least-most rows columns judge h.weighing.level h.weighing.some g sizes left, few-ways);
          greatest =
              high-at (length rows) columns highs g (number_of_labellings sizes) h.highs_are a.stage few-ways
              ∙ ap (λ m. min (number_of_labellings sizes) (product_by (greatest_weight m) (drop g columns))) (sym (fits-long sizes rows a.within));
        }

    -- a choice there
    module _ (before : g < length columns) (x : List ℕ) (o : Contains (choices (slice_index columns g) (sizes_in f)) x) where
      pub choice : IsChoice (slice_index columns g) (sizes_in f) x
      choice = chosen (slice_index columns g) (sizes_in f) x o

      pub choice-held : IsHeld width x
      choice-held = held-within width rows x (fits-chain x (sizes_in f) rows choice.fitting left.within) h.held

      pub choice-few : number_of_labellings x ≤ MAX
      choice-few = omega (arith, fewer-labellings x (sizes_in f) choice.fitting, few-ways)

      pub step-weights : AreWeights (so_far p) (pos (number_of_labellings x))
      step-weights = weights-of (so_far p) (past_of p) (number_of_labellings x) a.product.whole (product-fits (number_of_labellings x) (fewer-labellings x (sizes_in f) choice.fitting))

  -- a place of the measure is such a key
  key-of : (g : ℕ) (f p : List ℤ) → AreReached (over_rooms (weight_meaning rows columns judge)) g f p → IsWeightKey rows columns g f p
  key-of g f p r =
      let a : IsPlace (weight_meaning rows columns judge) g f p = over_place (weight_meaning rows columns judge) g f p r in
      let here : IsLeft (weight_meaning rows columns judge) g (sizes_in f) = reached_left rows columns judge h.weighing.level h.weighing.some g (sizes_in f) p a.reached in
      record {
        stage = reached-stage (weight_meaning rows columns judge) g (sizes_in f) p a.reached;
        whole = a.whole;
        level = here.whole;
        within = here.within;
        product = reached_product rows columns judge h.weighing.level h.weighing.some g (sizes_in f) p a.reached;
      }

  pub weight_number : IsScalar (label_floor columns rows) (over_sizes (weight_numbers columns judge))
  weight_number =
      over_number columns rows (weight_numbers columns judge) (weight_measure rows columns judge h.weighing.level h.weighing.some)
      (λ g f x p v. step-weights g f p (key-of g f p v.reached) v.before x v.allowed)
      (λ g f p r. let k = key-of g f p r in outcome g f p k _ (least-most rows columns judge h.weighing.level h.weighing.some g (sizes_in f) (left g f p k)))
      (λ g f p r. let k = key-of g f p r in outcome g f p k _ (greatest-most rows columns judge h.weighing.level h.weighing.some g (sizes_in f) (left g f p k)))

  pub room-of : (g : ℕ) (f : List ℤ) → IsRoom (over_rooms (weight_meaning rows columns judge)) g f → IsWeightRoom rows columns g f
  room-of g f v = record { partial = v.partial; place = key-of g f v.partial v.reached }

  pub step-of : (g : ℕ) (f : List ℤ) (x : List ℕ) → IsStep (over_rooms (weight_meaning rows columns judge)) g f x → IsWeightStep rows columns g f x
  step-of g f x v = record {
    partial = v.partial;
    move = record {
      before = v.move.before;
      place = key-of g f v.partial v.move.reached;
      allowed = v.move.allowed;
    };
  }
