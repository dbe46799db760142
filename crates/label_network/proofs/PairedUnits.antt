-- The units of rows in ascending order are those of the rows by ascending score: what pairs add is added row by row too.
use Rattle.std.proofs.Common.{◌≡◌, ℕ, zero, suc, ◌+◌, ◌*◌, List, [], ◌∷◌, ◌++◌, length, refl, sym, ◌∙◌, ap, arith}
use Rattle.std.specs.Prelude.{ℤ, pos, ◌≤ℤ◌, int_le, replicate, reverse}
use Rattle.std.specs.List.{sum, sum_by, AllByRecursion}
use Rattle.std.proofs.lemmas.Int.{ints}
use Rattle.std.proofs.lemmas.List.Sums.{sum_by-cons}
use Rattle.weights.specs.InOrder.{in_order}
use Rattle.weights.proofs.OneOrder.{IsInOrder, int-order, order-once, ordered-in_order, sum_by-in_order}
use Rattle.completion_bounds.specs.Pairings.{paired}
use Rattle.completion_bounds.proofs.Rearranged.{Ascends, all_imp}
use Rattle.later_scores.specs.LaterSums.{subjects}
use Rattle.label_network.specs.Linear.{least_paired, greatest_paired}
use Rattle.label_network.specs.LinearSteps.{least_added, greatest_added, order_of, ordered, ordered_scores}
use Rattle.label_network.proofs.Ascending.{ascending, each-once}
use Rattle.label_network.proofs.Climbing.{Climbs, RowsClimb}
use Rattle.label_network.proofs.LeastPairing.{least_pairing_is, greatest_pairing_is}
use Rattle.label_network.proofs.Rearranging.{picked-length, picked-sum, picked_scores-length, weighed, weighed-same}
use Rattle.label_network.proofs.Sorting.{sort_up, tail-climbs}

-- where scores climb, so do their units
all-units : (u s : ℤ) (c : ℕ) (xs : List ℤ) → u ≤ℤ s → AllByRecursion (λ x. u ≤ℤ x) xs → AllByRecursion (λ x. u ≤ℤ x) (replicate c s ++ xs)
all-units u s zero xs h a = a
all-units u s (suc c) xs h a = (h, all-units u s c xs h a)

units-from : (u : ℤ) (us : List ℤ) (ms : List ℕ) → Climbs u us → AllByRecursion (λ x. u ≤ℤ x) (subjects us ms)
units-from u [] ms c = tt
units-from u (w ∷ us) [] c = tt
units-from u (w ∷ us) (m ∷ ms) c = all-units u w m (subjects us ms) c.0 (all_imp (λ x h. omega (arith, ints, h, c.0)) (subjects us ms) (units-from w us ms c.1))

units-before : (c : ℕ) (s : ℤ) (xs : List ℤ) → AllByRecursion (λ x. s ≤ℤ x) xs → Ascends xs → Ascends (replicate c s ++ xs)
units-before zero s xs a h = h
units-before (suc c) s xs a h = (all-units s s c xs (omega (arith, ints)) a, units-before c s xs a h)

units-ascend : (us : List ℤ) (ms : List ℕ) → RowsClimb us → Ascends (subjects us ms)
units-ascend [] ms c = tt
units-ascend (u ∷ us) [] c = tt
units-ascend (u ∷ us) (m ∷ ms) c = units-before m u (subjects us ms) (units-from u us ms c) (units-ascend us ms (tail-climbs u us c))

ascends-in_order : (xs : List ℤ) → Ascends xs → IsInOrder int_le xs
ascends-in_order [] a = tt
ascends-in_order (x ∷ xs) a = (all_imp (λ y h. grind (arith, ints, h)) xs a.0, ascends-in_order xs a.1)

-- a sum over units
sum-block : (f : ℤ → ℕ) (c : ℕ) (v : ℤ) (xs : List ℤ) → sum_by f (replicate c v ++ xs) ≡ c * f v + sum_by f xs
sum-block f zero v xs = omega arith
sum-block f (suc c) v xs = omega (arith, sum_by-cons f v (replicate c v ++ xs), sum-block f c v xs)

sum-units : (f : ℤ → ℕ) (us : List ℤ) (r : List ℕ) → sum_by f (subjects us r) ≡ weighed f us r
sum-units f [] r = refl
sum-units f (u ∷ us) [] = refl
sum-units f (u ∷ us) (x ∷ r) = sum-block f x u (subjects us r) ∙ ap (λ n. x * f u + n) (sum-units f us r)

module _ (us : List ℤ) (r : List ℕ) (level : length r ≡ length us) where
  units-ordered : in_order int_le (subjects us r) ≡ subjects (ordered_scores us) (ordered us r)
  units-ordered =
      order-once int_le int-order (in_order int_le (subjects us r)) (subjects (ordered_scores us) (ordered us r))
      (ordered-in_order int_le int-order (subjects us r))
      (ascends-in_order _ (units-ascend (ordered_scores us) (ordered us r) (ascending us)))
      (λ f. sum_by-in_order int_le f (subjects us r) ∙ sum-units f us r ∙ sym (weighed-same f (order_of us) us r (each-once us) level) ∙ sym (sum-units f (ordered_scores us) (ordered us r)))

  module _ (later : List ℤ) (whole : sum r ≡ length later) where
    as_long : length (ordered_scores us) ≡ length (ordered us r)
    as_long = picked_scores-length (order_of us) us ∙ sym (picked-length (order_of us) r)

    as_many : sum (ordered us r) ≡ length later
    as_many = picked-sum (length us) (order_of us) r (each-once us) level ∙ whole

    pub least_paired_is : least_paired us r later ≡ least_added (ordered_scores us) (ordered us r) later
    least_paired_is =
        ap (λ xs. paired xs (reverse (sort_up later))) units-ordered
        ∙ sym (least_pairing_is (ordered_scores us) (ordered us r) later as_long as_many)

    pub greatest_paired_is : greatest_paired us r later ≡ greatest_added (ordered_scores us) (ordered us r) later
    greatest_paired_is =
        ap (λ xs. paired xs (sort_up later)) units-ordered
        ∙ sym (greatest_pairing_is (ordered_scores us) (ordered us r) later as_long as_many)

-- nothing is added where no scores are left
pub paired-none : (xs : List ℤ) → paired xs [] ≡ pos 0
paired-none [] = refl
paired-none (x ∷ xs) = refl
