-- What the measure of points knows at each of its keys.
use Rattle.std.proofs.Common.{◌≡◌, ℕ, ◌+◌, ◌-◌, ◌*◌, ◌≤◌, List, length, sym, ◌∙◌, arith}
use Rattle.std.specs.Prelude.{ℤ, pos, ◌+ℤ◌, nat_abs, unsigned_abs, slice_index}
use Rattle.std.specs.List.{sum, Contains}
use Rattle.std.proofs.lemmas.Int.{ints}
use Rattle.std.proofs.lemmas.List.Sums.{sum_by-take-drop}
use Rattle.weights.specs.declared.TheConstants.{MAX}
use Rattle.networks.specs.declared.verdicts.Judge.{Judge}
use Rattle.weights.proofs.ChoiceLists.{IsChoice}
use Rattle.label_network.specs.LabelSteps.{AreSizes}
use Rattle.room_network.specs.Meanings.{AreReached}
use Rattle.room_network.specs.Numbers.{IsScalar, IsOutcome, so_far}
use Rattle.room_network.specs.declared.numbers.Operation.TheVariants.{Sum}
use Rattle.label_network.specs.LabelNetwork.{over_rooms, over_sizes}
use Rattle.label_network.specs.LabelRooms.{label_floor}
use Rattle.label_network.specs.Meanings.{IsPlace, allowed, sizes_in}
use Rattle.label_network.proofs.Narrowing.{IsLeft, chosen}
use Rattle.label_network.proofs.OverRooms.{over_number, over_place}
use Rattle.label_network.proofs.Rows.{fits-long, length-abs}
use Rattle.label_network.proofs.Sizes.{sizes-of_pos}
use Rattle.ordered_samples.specs.declared.used_pairs.UsedPair.{UsedPair}
use Rattle.ordered_samples.specs.PairCounts.{column_points, open_points, pairs_meaning, pairs_numbers, sure_points}
use Rattle.ordered_samples.specs.Umbrella.{subject_pairs}
use Rattle.ordered_samples.specs.UmbrellaSteps.{IsCounting}
use Rattle.ordered_samples.proofs.PairFits.{pairs-most, points-most}
use Rattle.ordered_samples.proofs.PairPoints.{IsPartial, middle-is, open-is, pairs_measure, reached_left, reached_partial}

module _ (qs : List UsedPair) (rows columns : List ℕ) (judge : Judge) (h : IsCounting qs rows columns judge) where
  module _ (g : ℕ) (f p : List ℤ) (r : AreReached (over_rooms (pairs_meaning qs rows columns judge)) g f p) where
    a : IsPlace (pairs_meaning qs rows columns judge) g f p
    a = over_place (pairs_meaning qs rows columns judge) g f p r

    pub left : IsLeft (pairs_meaning qs rows columns judge) g (sizes_in f)
    left = reached_left qs rows columns judge h g (sizes_in f) p a.reached

    pub partial_is : IsPartial qs rows g (sizes_in f) p
    partial_is = reached_partial qs rows columns judge h g (sizes_in f) p a.reached

    pub long : length f ≡ length rows
    long = sym (length-abs f) ∙ fits-long (sizes_in f) rows left.within

    pub few : sum (sizes_in f) ≤ 10000
    few = omega (arith, left.whole, h.level, h.few, sum_by-take-drop (λ v. v) columns g)

    pub sizes : AreSizes f
    sizes = sizes-of_pos (sizes_in f) (omega (arith, few)) f a.whole

    all-few : 2 * subject_pairs qs rows ≤ 12800000000
    all-few = omega (arith, pairs-most qs rows h.pairs_are.few h.few)

    low-fits : unsigned_abs (so_far p) + sure_points qs rows (sizes_in f) ≤ 12800000000
    low-fits = omega (arith, partial_is.most, all-few)

    whole-sum : (s : ℤ) (n : ℕ) → s ≡ pos (nat_abs s) → s +ℤ pos n ≡ pos (nat_abs s + n)
    whole-sum s n e = omega (arith, ints, e)

    -- of what is no more than all points
    outcome : (n : ℕ) → nat_abs (so_far p) + n ≤ 2 * subject_pairs qs rows → IsOutcome Sum judge (so_far p) (pos n)
    outcome n l = record {
      fits = omega (arith, l, all-few);
      ruled = rw (whole-sum (so_far p) n partial_is.whole) (h.rules_fit _ l);
    }

    least-outcome : IsOutcome Sum judge (so_far p) (pos (sure_points qs rows (sizes_in f)))
    least-outcome = outcome _ (omega (arith, partial_is.most))

    greatest-outcome : IsOutcome Sum judge (so_far p) (pos (sure_points qs rows (sizes_in f) + open_points qs (sizes_in f)))
    greatest-outcome = outcome _ (omega (arith, partial_is.most))

    -- a choice for a column
    module _ (x : List ℕ) (o : Contains (allowed (pairs_meaning qs rows columns judge) g (sizes_in f)) x) where
      pub choice : IsChoice (slice_index columns g) (sizes_in f) x
      choice = chosen (slice_index columns g) (sizes_in f) x o

      added-fits : unsigned_abs (so_far p) + column_points qs rows (sizes_in f) x ≤ MAX
      added-fits = omega (arith, low-fits, points-most rows (sizes_in f) x h.few left.within choice.fitting qs h.pairs_are.few)

  pub pairs_number : IsScalar (label_floor columns rows) (over_sizes (pairs_numbers qs rows judge))
  pairs_number =
      over_number columns rows (pairs_numbers qs rows judge) (pairs_measure qs rows columns judge h)
      (λ g f x p v. added-fits g f p v.reached x v.allowed) (λ g f p r. least-outcome g f p r) (λ g f p r. greatest-outcome g f p r)

-- the middle, less and more the open pairs
pub around : (qs : List UsedPair) (rows r : List ℕ) (beside middle : ℕ) → beside ≡ subject_pairs qs r → middle ≡ column_points qs rows r r → (beside ≤ middle) × (middle - beside ≡ sure_points qs rows r) × (middle + beside ≡ sure_points qs rows r + open_points qs r)
around qs rows r beside middle e f =
    let whole = middle-is qs rows r in
    (omega (arith, e, f, whole), omega (arith, e, f, whole), omega (arith, e, f, whole, (open-is qs r)))
