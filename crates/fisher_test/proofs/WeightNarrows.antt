-- The interval of a table's weight narrows along every choice, and nothing in it passes the number of all labellings.
use Rattle.std.proofs.Common.{◌≡◌, ℕ, ◌+◌, ◌*◌, ◌<◌, ◌≤◌, min, List, [], ◌∷◌, length, drop, refl, sym, ◌∙◌, ap, subst, arith, add-one, drop-cons, drop_of_length-le, mul_assoc, mul-one}
use Rattle.std.specs.Prelude.{ℤ, pos, ◌≤ℤ◌, slice_index}
use Rattle.std.specs.List.{sum}
use Rattle.std.proofs.Math.Nat.{mul-le-mul, mul-le-mul_left}
use Rattle.std.proofs.lemmas.Int.{ints}
use Rattle.std.proofs.lemmas.List.Sums.{sum_by-cons}
use Rattle.networks.specs.declared.verdicts.Judge.{Judge}
use Rattle.weights.specs.Grouped.{minus}
use Rattle.weights.specs.Labellings.{number_of_labellings}
use Rattle.weights.proofs.ChoiceLists.{IsChoice}
use Rattle.weights.proofs.FirstLabel.{number_of_labellings-none, number_of_labellings-positive}
use Rattle.weights.proofs.Sized.{length-minus}
use Rattle.completion_bounds.specs.Fillings.{greatest_weight, least_weight, product_by}
use Rattle.completion_bounds.proofs.Factorials.{total-is}
use Rattle.completion_bounds.proofs.Narrowing.{greatest-step, least-step}
use Rattle.completion_bounds.proofs.TableWeights.{labellings-parts, least-all, within}
use Rattle.label_network.specs.Meanings.{AreReached, IsMeasure}
use Rattle.label_network.proofs.Rows.{fits-long}
use Rattle.label_network.proofs.Narrowing.{IsLeft, IsNarrowing, measured, reached-kept, reached-left}
use Rattle.fisher_test.specs.Weighing.{greatest_factor, least_factor, weight_meaning}
use Rattle.fisher_test.specs.WeightSteps.{past_of}
use Rattle.fisher_test.specs.WeightSteps.{IsProduct}

pub risen : (a b : ℕ) → a ≤ b → pos a ≤ℤ pos b
risen a b h = omega (arith, ints, h)

module _ (rows columns : List ℕ) (judge : Judge) (level : sum columns ≡ sum rows) (some : 1 ≤ length rows) where
  module _ (g : ℕ) (r : List ℕ) (l : IsLeft (weight_meaning rows columns judge) g r) where
    pub least-most : least_factor columns g r ≤ number_of_labellings r
    least-most = least-all r (drop g columns) (total-is r ∙ sym l.whole ∙ sym (total-is (drop g columns)))

    pub greatest-most : greatest_factor columns g r ≤ number_of_labellings r
    greatest-most = omega arith

    -- a choice for a column
    module _ (x : List ℕ) (p : List ℤ) (before : g < length columns) (c : IsChoice (slice_index columns g) r x) (k : IsProduct rows g r p) where
      later : drop g columns ≡ slice_index columns g ∷ drop (g + 1) columns
      later = rw add-one (drop-cons columns g 0 before)

      room : slice_index columns g + sum (drop (g + 1) columns) ≤ sum r
      room = omega (arith, ap sum later, sum_by-cons (λ v. v) (slice_index columns g) (drop (g + 1) columns), l.whole)

      rising : past_of p * least_factor columns g r ≤ (past_of p * number_of_labellings x) * least_factor columns (g + 1) (minus r x)
      rising =
          let step : product_by (least_weight r) (slice_index columns g ∷ drop (g + 1) columns) ≤ number_of_labellings x * least_factor columns (g + 1) (minus r x) = least-step (slice_index columns g) (drop (g + 1) columns) r x c room in
          rw (later, mul_assoc (past_of p) (number_of_labellings x) (least_factor columns (g + 1) (minus r x))) (mul-le-mul_left (past_of p) step)

      falling : (past_of p * number_of_labellings x) * greatest_factor columns (g + 1) (minus r x) ≤ past_of p * greatest_factor columns g r
      falling =
          let wide : 0 < length r = omega (arith, fits-long r rows l.within, some) in
          let step : number_of_labellings x * min (number_of_labellings (minus r x)) (product_by (greatest_weight (length r)) (drop (g + 1) columns)) ≤ min (number_of_labellings r) (product_by (greatest_weight (length r)) (slice_index columns g ∷ drop (g + 1) columns)) = greatest-step (slice_index columns g) (drop (g + 1) columns) r x c wide in
          let all : past_of p * (number_of_labellings x * min (number_of_labellings (minus r x)) (product_by (greatest_weight (length r)) (drop (g + 1) columns))) ≤ past_of p * min (number_of_labellings r) (product_by (greatest_weight (length r)) (drop g columns)) = rw later (mul-le-mul_left (past_of p) step) in
          subst (λ n. (past_of p * number_of_labellings x) * min (number_of_labellings (minus r x)) (product_by (greatest_weight n) (drop (g + 1) columns)) ≤ past_of p * greatest_factor columns g r) (sym (length-minus r x))
          (omega (arith, all, mul_assoc (past_of p) (number_of_labellings x) (min (number_of_labellings (minus r x)) (product_by (greatest_weight (length r)) (drop (g + 1) columns)))))

      pub keeping : IsProduct rows (g + 1) (minus r x) (pos (past_of p * number_of_labellings x) ∷ [])
      keeping =
          let parts : number_of_labellings x * number_of_labellings (minus r x) ≤ number_of_labellings r = labellings-parts r x (within (slice_index columns g) r x c) in
          let more : past_of p * (number_of_labellings x * number_of_labellings (minus r x)) ≤ past_of p * number_of_labellings r = mul-le-mul_left (past_of p) parts in
          record {
            one = refl;
            whole = refl;
            some = omega (arith, mul-le-mul {n₁ = 1} {m₁ = 1} k.some (number_of_labellings-positive x));
            small = omega (arith, mul_assoc (past_of p) (number_of_labellings x) (number_of_labellings (minus r x)), more, k.small);
          }

  pub none_left : drop (length columns) columns ≡ []
  none_left = drop_of_length-le columns {i = length columns} (omega arith)

  ended : (r : List ℕ) → IsLeft (weight_meaning rows columns judge) (length columns) r → number_of_labellings r ≡ 1
  ended r l = number_of_labellings-none r (sym l.whole ∙ ap sum none_left)

  weight_narrowing : IsNarrowing (weight_meaning rows columns judge) (IsProduct rows)
  weight_narrowing = record {
    keeps = λ g r x p before l c k. keeping g r l x p before c k;
    rises = λ g r x p before l c k. risen _ _ (rising g r l x p before c k);
    falls = λ g r x p before l c k. risen _ _ (falling g r l x p before c k);
    low_end = λ r p l k. ap (λ cs. pos (past_of p * product_by (least_weight r) cs)) none_left ∙ ap pos (mul-one (past_of p)) ∙ sym k.whole;
    high_end = λ r p l k. ap (λ cs. pos (past_of p * min (number_of_labellings r) (product_by (greatest_weight (length r)) cs))) none_left ∙ ap (λ n. pos (past_of p * min n 1)) (ended r l) ∙ ap pos (mul-one (past_of p)) ∙ sym k.whole;
  }

  pub first-product : IsProduct rows 0 rows (pos 1 ∷ [])
  first-product = record { one = refl; whole = refl; some = omega arith; small = omega arith }

  pub weight_measure : IsMeasure (weight_meaning rows columns judge)
  weight_measure = measured (weight_meaning rows columns judge) level (IsProduct rows) weight_narrowing first-product (λ g r p k. k.one)

  pub reached_product : (g : ℕ) (r : List ℕ) (p : List ℤ) → AreReached (weight_meaning rows columns judge) g r p → IsProduct rows g r p
  reached_product g r p a = reached-kept (weight_meaning rows columns judge) level (IsProduct rows) weight_narrowing first-product g r p a

  pub reached_left : (g : ℕ) (r : List ℕ) (p : List ℤ) → AreReached (weight_meaning rows columns judge) g r p → IsLeft (weight_meaning rows columns judge) g r
  reached_left g r p a = reached-left (weight_meaning rows columns judge) level g r p a
