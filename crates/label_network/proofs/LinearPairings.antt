-- The ends of the interval are the least and the greatest pairing of the remaining rows' units with the later subjects.
use Rattle.std.proofs.Common.{◌≡◌, ℕ, List, [], ◌∷◌, length, sym, ◌∙◌, arith}
use Rattle.std.specs.Prelude.{ℤ, ◌≤ℤ◌, int_le}
use Rattle.std.specs.List.{sum, AllByRecursion}
use Rattle.std.proofs.lemmas.Int.{ints}
use Rattle.std.proofs.lemmas.List.Sorted.{IsPermutation-sym, IsPermutation-trans}
use Rattle.completion_bounds.specs.Pairings.{IsLeastPairing, IsGreatestPairing}
use Rattle.completion_bounds.proofs.Rearranged.{Ascends, all_imp, is_least, is_greatest}
use Rattle.weights.proofs.OneOrder.{in_order-permutes}
use Rattle.later_scores.specs.LaterSums.{subjects}
use Rattle.later_scores.proofs.Later.{length-subjects}
use Rattle.label_network.specs.Linear.{least_paired, greatest_paired}
use Rattle.label_network.proofs.Climbing.{Climbs, RowsClimb}
use Rattle.label_network.proofs.Sorting.{sort_up, sort-climbs, length-sort}

-- lists that climb ascend
climbs-all : (u : ℤ) (xs : List ℤ) → Climbs u xs → AllByRecursion (λ x. u ≤ℤ x) xs
climbs-all u [] c = tt
climbs-all u (x ∷ xs) c = (c.0, all_imp (λ w h. omega (arith, ints, h, c.0)) xs (climbs-all x xs c.1))

climbs-ascend : (xs : List ℤ) → RowsClimb xs → Ascends xs
climbs-ascend [] c = tt
climbs-ascend (x ∷ []) c = (tt, tt)
climbs-ascend (x ∷ y ∷ xs) c = (climbs-all x (y ∷ xs) c, climbs-ascend (y ∷ xs) c.1)

sorted-ascends : (xs : List ℤ) → Ascends (sort_up xs)
sorted-ascends xs = climbs-ascend (sort_up xs) (sort-climbs xs)

module _ (us : List ℤ) (ms : List ℕ) (later : List ℤ) (level : length us ≡ length ms) (whole : sum ms ≡ length later) where
  abbrev units : List ℤ
  units = sort_up (subjects us ms)

  long : length units ≡ length (sort_up later)
  long = length-sort (subjects us ms) ∙ length-subjects us ms level ∙ whole ∙ sym (length-sort later)

  -- some pairing of the units with the later scores adds so little, and none adds less
  pub least_is_paired : IsLeastPairing units later (least_paired us ms later)
  least_is_paired =
      let it = is_least units (sort_up later) (sorted-ascends (subjects us ms)) (sorted-ascends later) long in
      record {
        attained = (it.attained.0, IsPermutation-trans _ _ _ (in_order-permutes int_le later) it.attained.1, it.attained.2);
        lower = λ zs p. it.lower zs (IsPermutation-trans _ _ _ (IsPermutation-sym later (sort_up later) (in_order-permutes int_le later)) p);
      }

  pub greatest_is_paired : IsGreatestPairing units later (greatest_paired us ms later)
  greatest_is_paired =
      let it = is_greatest units (sort_up later) (sorted-ascends (subjects us ms)) (sorted-ascends later) long in
      record {
        attained = (it.attained.0, IsPermutation-trans _ _ _ (in_order-permutes int_le later) it.attained.1, it.attained.2);
        upper = λ zs p. it.upper zs (IsPermutation-trans _ _ _ (IsPermutation-sym later (sort_up later) (in_order-permutes int_le later)) p);
      }
