-- The value of a labelling in the network is the factored sum of its groups' squared sums.
use Rattle.std.proofs.Common.{◌≡◌, ℕ, zero, suc, ◌+◌, Bool, true, false, cond, List, [], ◌∷◌, ◌++◌, length, map, take, drop, refl, ◌∙◌, ap, arith, nat_eq}
use Rattle.std.specs.Prelude.{ℤ, pos, ◌+ℤ◌, ◌*ℤ◌, replicate}
use Rattle.std.proofs.Math.IntN.{zero-*ℤ, +ℤ_idl, +ℤ_idr}
use Rattle.std.proofs.lemmas.Int.{ints}
use Rattle.std.proofs.lemmas.List.{length-map, length-replicate}
use Rattle.std.proofs.lemmas.List.FromFn.{length-range_with_len}
use Rattle.std.proofs.lemmas.List.Sums.{sum_by-cons}
use Rattle.networks.specs.declared.verdicts.Judge.{Judge}
use Rattle.weights.specs.Labellings.{counts_of, labels}
use Rattle.weights.specs.Grouped.{columns_of, minus}
use Rattle.weights.proofs.Counted.{count_of}
use Rattle.weights.proofs.Sized.{length-counts_of}
use Rattle.completion_bounds.specs.Boxes.{factored_squares}
use Rattle.later_scores.specs.LaterSums.{subjects}
use Rattle.later_scores.proofs.LaterArcs.{more-times}
use Rattle.label_network.proofs.Endings.{partial_after, labelling_value}
use Rattle.label_network.specs.Linear.{score_of}
use Rattle.label_network.proofs.LinearValues.{drop-head}
use Rattle.scores.specs.Scores.{labelled_sum}
use Rattle.scores.proofs.LabelledSums.{labelled-none}
use Rattle.kruskal_wallis.specs.KruskalWallis.{group_sums}
use Rattle.networks.specs.PartialSums.{plus}
use Rattle.kruskal_wallis.specs.RankSums.{score_parts, squares_meaning}
use Rattle.networks.proofs.Swaps.{length-plus}
use Rattle.kruskal_wallis.proofs.RankNarrows.{length-parts}

-- ---- one group

taken : (n k : ℕ) (s t r : ℤ) → n ≡ 1 + k → t ≡ (pos k *ℤ s) +ℤ r → s +ℤ t ≡ (pos n *ℤ s) +ℤ r
taken n k s t r e f =
    let one : n ≡ suc k = omega (arith, e) in
    rw (one, more-times k s, f) (omega (arith, ints))

passed : (n k : ℕ) (s t r : ℤ) → n ≡ 0 + k → t ≡ (pos k *ℤ s) +ℤ r → pos 0 +ℤ t ≡ (pos n *ℤ s) +ℤ r
passed n k s t r e f =
    let one : n ≡ k = omega (arith, e) in
    rw (one, f) (omega (arith, ints))

none : (s t : ℤ) → t ≡ (pos 0 *ℤ s) +ℤ t
none s t = rw (zero-*ℤ s) (omega (arith, ints))

-- of subjects who share a score, those with the label i count
pub block : (i c : ℕ) (s : ℤ) (rest : List ℤ) (xs : List ℕ) → labelled_sum i (replicate c s ++ rest) xs ≡ (pos (count_of i (take c xs)) *ℤ s) +ℤ labelled_sum i rest (drop c xs)
block i zero s rest xs = none s (labelled_sum i rest xs)
block i (suc c) s rest [] = rw (zero-*ℤ s, labelled-none i rest) refl
block i (suc c) s rest (x ∷ xs) = by (nat_eq x i) (sum_by-cons (λ l. cond (nat_eq l i) 1 0) x (take c xs)) (block i c s rest xs)
  where
    by : (b : Bool) → count_of i (x ∷ take c xs) ≡ cond b 1 0 + count_of i (take c xs) → labelled_sum i (replicate c s ++ rest) xs ≡ (pos (count_of i (take c xs)) *ℤ s) +ℤ labelled_sum i rest (drop c xs)
        → cond b s (pos 0) +ℤ labelled_sum i (replicate c s ++ rest) xs ≡ (pos (count_of i (x ∷ take c xs)) *ℤ s) +ℤ labelled_sum i rest (drop c xs)
    by true e f = taken _ _ s _ _ e f
    by false e f = passed _ _ s _ _ e f

-- ---- all groups

joined : (p a b c : ℤ) → c ≡ a +ℤ b → (p +ℤ a) +ℤ b ≡ p +ℤ c
joined p a b c e = omega (arith, ints, e)

blocks : (is : List ℕ) (p : List ℤ) (c : ℕ) (s : ℤ) (rest : List ℤ) (xs : List ℕ) → length p ≡ length is
    → plus (plus p (score_parts s (map (λ i. count_of i (take c xs)) is))) (map (λ i. labelled_sum i rest (drop c xs)) is) ≡ plus p (map (λ i. labelled_sum i (replicate c s ++ rest) xs) is)
blocks [] [] c s rest xs l = refl
blocks [] (p ∷ ps) c s rest xs l = absurd (omega (arith, l))
blocks (i ∷ is) [] c s rest xs l = absurd (omega (arith, l))
blocks (i ∷ is) (p ∷ ps) c s rest xs l = rw (joined p _ _ _ (block i c s rest xs), blocks is ps c s rest xs (omega (arith, l))) refl

plus-none : (p : List ℤ) (is xs : List ℕ) → length p ≡ length is → p ≡ plus p (map (λ i. labelled_sum i [] xs) is)
plus-none [] is xs l = refl
plus-none (p ∷ ps) [] xs l = absurd (omega (arith, l))
plus-none (p ∷ ps) (i ∷ is) xs l = rw (← plus-none ps is xs (omega (arith, l)), +ℤ_idr p) refl

none-plus : (q : List ℤ) → plus (replicate (length q) (pos 0)) q ≡ q
none-plus [] = refl
none-plus (a ∷ q) = rw (none-plus q, +ℤ_idl a) refl

pub length-labels : (k : ℕ) → length (labels k) ≡ k
length-labels k = length-range_with_len 0 k

pub length-sums : (k : ℕ) (scores : List ℤ) (xs : List ℕ) → length (group_sums k scores xs) ≡ k
length-sums k scores xs = length-map (labels k) (λ i. labelled_sum i scores xs) ∙ length-labels k

module _ (factors : List ℕ) (bound : ℕ) (scores : List ℤ) (columns rows : List ℕ) (judge : Judge) where
  sums-from : (k : ℕ) (cs : List ℕ) (ss : List ℤ) (g : ℕ) (r : List ℕ) (p : List ℤ) (xs : List ℕ) → drop g scores ≡ ss → length ss ≡ length cs → length p ≡ k
      → partial_after (squares_meaning factors bound scores columns rows judge) g r p (columns_of k cs xs) ≡ plus p (group_sums k (subjects ss cs) xs)
  sums-from k [] [] g r p xs d e l = plus-none p (labels k) xs (l ∙ (let n = length-labels k in omega (arith, n)))
  sums-from k [] (s ∷ ss) g r p xs d e l = absurd (omega (arith, e))
  sums-from k (c ∷ cs) [] g r p xs d e l = absurd (omega (arith, e))
  sums-from k (c ∷ cs) (s ∷ ss) g r p xs d e l =
      let x : List ℕ = counts_of k (take c xs) in
      let here = drop-head g scores s ss d in
      let next : List ℤ = plus p (score_parts (score_of scores g) x) in
      let long : length next ≡ k = length-plus p (score_parts (score_of scores g) x) ∙ l in
      sums-from k cs ss (g + 1) (minus r x) next (drop c xs) here.1 (omega (arith, e)) long
      ∙ ap (λ z. plus (plus p (score_parts z x)) (group_sums k (subjects ss cs) (drop c xs))) here.0
      ∙ blocks (labels k) p c s (subjects ss cs) xs (omega (arith, l, length-labels k))

  pub value-is : length scores ≡ length columns → (xs : List ℕ) → labelling_value (squares_meaning factors bound scores columns rows judge) xs ≡ pos (factored_squares (group_sums (length rows) (subjects scores columns) xs) factors)
  value-is long xs =
      ap (λ p. pos (factored_squares p factors))
      (sums-from (length rows) columns scores 0 rows (replicate (length rows) (pos 0)) xs refl long (length-replicate (length rows) (pos 0))
      ∙ ap (λ n. plus (replicate n (pos 0)) (group_sums (length rows) (subjects scores columns) xs)) (let n = length-sums (length rows) (subjects scores columns) xs in omega (arith, n))
      ∙ none-plus (group_sums (length rows) (subjects scores columns) xs))
