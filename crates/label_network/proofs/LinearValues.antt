-- The linear statistic of a labelling is the sum over the cells of its table, and it is what the network ends at.
use Rattle.std.proofs.Common.{◌≡◌, ℕ, zero, suc, ◌+◌, ◌-◌, ◌*◌, ◌<◌, ◌≤◌, Bool, true, false, cond, List, [], ◌∷◌, ◌++◌, length, map, take, drop, inl, inr, refl, sym, ◌∙◌, ap, arith, suc-add, nat_eq, eq-eqb, ne_eqb}
use Rattle.std.specs.Prelude.{ℤ, pos, ◌+ℤ◌, ◌*ℤ◌, replicate, unsigned_abs}
use Rattle.std.specs.List.{count_by, range_with_len, sum}
use Rattle.std.proofs.Math.IntN.{*ℤ_comm, zero-*ℤ, +ℤ_assoc, +ℤ_idl, +ℤ_idr}
use Rattle.std.proofs.Math.Nat.{mul-le-mul, mul-le-mul_left, le_refl}
use Rattle.std.proofs.lemmas.Bool.{cases_eq}
use Rattle.std.proofs.lemmas.Int.{ints, unsigned_abs-mul}
use Rattle.std.proofs.lemmas.List.Sums.{sum_by-cons}
use Rattle.networks.specs.declared.verdicts.Judge.{Judge}
use Rattle.weights.specs.Grouped.{columns_of, minus}
use Rattle.weights.specs.Labellings.{counts_of}
use Rattle.weights.specs.Numbers.{absolute_sum}
use Rattle.completion_bounds.specs.Pairings.{greatest_score}
use Rattle.completion_bounds.proofs.Products.{distribute}
use Rattle.room_network.specs.Numbers.{so_far}
use Rattle.later_scores.specs.LaterSums.{subjects, total_score}
use Rattle.later_scores.proofs.Absolute.{size-plus, sizes-block}
use Rattle.label_network.specs.Linear.{column_sum, linear_meaning, linear_statistic, row_sum, score_of, table_sum}
use Rattle.label_network.proofs.Endings.{labelling_value, partial_after}
use Rattle.label_network.proofs.LinearSizes.{score-within}

-- of rows from s on, the score of a label
abbrev score_at : List ℤ → ℕ → ℕ → ℤ
score_at [] s x = pos 0
score_at (u ∷ us) s x = cond (nat_eq x s) u (pos 0) +ℤ score_at us (s + 1) x

score_at-none : (us : List ℤ) (s x : ℕ) → x < s → score_at us s x ≡ pos 0
score_at-none [] s x h = refl
score_at-none (u ∷ us) s x h = rw (ne_eqb x s (λ e. omega (arith, e, h)), score_at-none us (s + 1) x (omega (arith, h))) refl

score_at-is : (us : List ℤ) (s x : ℕ) → s ≤ x → score_at us s x ≡ score_of us (x - s)
score_at-is [] s x h = by (x - s)
  where
    by : (i : ℕ) → pos 0 ≡ score_of [] i
    by zero = refl
    by (suc i) = refl
score_at-is (u ∷ us) s x h = elim (cases_eq x s) [
  | inl e ↦ (let none : x - s ≡ 0 = omega (arith, e) in
      rw (eq-eqb x s e, score_at-none us (s + 1) x (omega (arith, e)), none) (+ℤ_idr u))
  | inr ne ↦ (let more : x - s ≡ suc (x - (s + 1)) = omega (arith, h, ne) in
      rw (ne_eqb x s ne, score_at-is us (s + 1) x (omega (arith, h, ne)), more) (+ℤ_idl (score_of us (x - (s + 1)))))
]

counted : (x : ℕ) (ys : List ℕ) (u : ℤ) (s : ℕ) (t r : ℤ) → (pos (count_by (λ l. nat_eq l s) (x ∷ ys)) *ℤ u) +ℤ (t +ℤ r) ≡ (cond (nat_eq x s) u (pos 0) +ℤ t) +ℤ ((pos (count_by (λ l. nat_eq l s) ys) *ℤ u) +ℤ r)
counted x ys u s t r = by (nat_eq x s) (sum_by-cons (λ l. cond (nat_eq l s) 1 0) x ys)
  where
    more : (n m : ℕ) (u t r : ℤ) → n ≡ 1 + m → (pos n *ℤ u) +ℤ (t +ℤ r) ≡ (u +ℤ t) +ℤ ((pos m *ℤ u) +ℤ r)
    more n m u t r e = let one : n ≡ suc m = omega (arith, e) in rw one (omega (arith, ints))

    same : (n m : ℕ) (u t r : ℤ) → n ≡ 0 + m → (pos n *ℤ u) +ℤ (t +ℤ r) ≡ (pos 0 +ℤ t) +ℤ ((pos m *ℤ u) +ℤ r)
    same n m u t r e = let one : n ≡ m = omega (arith, e) in rw one (omega (arith, ints))

    by : (b : Bool) → count_by (λ l. nat_eq l s) (x ∷ ys) ≡ cond b 1 0 + count_by (λ l. nat_eq l s) ys → (pos (count_by (λ l. nat_eq l s) (x ∷ ys)) *ℤ u) +ℤ (t +ℤ r) ≡ (cond b u (pos 0) +ℤ t) +ℤ ((pos (count_by (λ l. nat_eq l s) ys) *ℤ u) +ℤ r)
    by true e = more _ _ u t r e
    by false e = same _ _ u t r e

one-more : (us : List ℤ) (s x : ℕ) (ys : List ℕ) → row_sum us (map (λ i. count_by (λ l. nat_eq l i) (x ∷ ys)) (range_with_len s (length us))) ≡ score_at us s x +ℤ row_sum us (map (λ i. count_by (λ l. nat_eq l i) ys) (range_with_len s (length us)))
one-more [] s x ys = refl
one-more (u ∷ us) s x ys = ap (λ t. (pos (count_by (λ l. nat_eq l s) (x ∷ ys)) *ℤ u) +ℤ t) (one-more us (s + 1) x ys) ∙ counted x ys u s (score_at us (s + 1) x) (row_sum us (map (λ i. count_by (λ l. nat_eq l i) ys) (range_with_len (s + 1) (length us))))

row-more : (us : List ℤ) (x : ℕ) (ys : List ℕ) → row_sum us (counts_of (length us) (x ∷ ys)) ≡ score_of us x +ℤ row_sum us (counts_of (length us) ys)
row-more us x ys =
    let whole : x - 0 ≡ x = omega arith in
    one-more us 0 x ys ∙ ap (λ t. t +ℤ row_sum us (counts_of (length us) ys)) (score_at-is us 0 x (omega arith) ∙ ap (score_of us) whole)

row-none : (us : List ℤ) (s : ℕ) → row_sum us (map (λ i. count_by (λ l. nat_eq l i) []) (range_with_len s (length us))) ≡ pos 0
row-none [] s = refl
row-none (u ∷ us) s = rw (row-none us (s + 1)) (none u)
  where
    none : (u : ℤ) → (pos 0 *ℤ u) +ℤ pos 0 ≡ pos 0
    none u = omega (arith, ints)

statistic-none : (us vs : List ℤ) → linear_statistic us vs [] ≡ pos 0
statistic-none us [] = refl
statistic-none us (v ∷ vs) = refl

nothing : (v t : ℤ) → t ≡ (v *ℤ pos 0) +ℤ t
nothing v t = rw (*ℤ_comm v (pos 0), zero-*ℤ v) (sym (+ℤ_idl t))

-- of subjects who share a column
block : (us : List ℤ) (c : ℕ) (v : ℤ) (rest : List ℤ) (xs : List ℕ) → linear_statistic us (replicate c v ++ rest) xs ≡ (v *ℤ row_sum us (counts_of (length us) (take c xs))) +ℤ linear_statistic us rest (drop c xs)
block us zero v rest xs = rw (row-none us 0) (nothing v (linear_statistic us rest xs))
block us (suc c) v rest [] = rw (row-none us 0, statistic-none us rest) (nothing v (pos 0))
block us (suc c) v rest (x ∷ xs) = rw (block us c v rest xs, row-more us x (take c xs)) (joined (score_of us x) v (row_sum us (counts_of (length us) (take c xs))) (linear_statistic us rest (drop c xs)))
  where
    joined : (u v s t : ℤ) → (u *ℤ v) +ℤ ((v *ℤ s) +ℤ t) ≡ (v *ℤ (u +ℤ s)) +ℤ t
    joined u v s t = omega (arith, ints, distribute v u s, *ℤ_comm u v)

pub statistic-table : (us vs : List ℤ) (cs xs : List ℕ) → linear_statistic us (subjects vs cs) xs ≡ table_sum us vs (columns_of (length us) cs xs)
statistic-table us [] cs xs = refl
statistic-table us (v ∷ vs) [] xs = refl
statistic-table us (v ∷ vs) (c ∷ cs) xs = block us c v (subjects vs cs) xs ∙ ap (λ t. (v *ℤ row_sum us (counts_of (length us) (take c xs))) +ℤ t) (statistic-table us vs cs (drop c xs))

-- ---- how large it is

pub statistic-size : (us ss : List ℤ) (xs : List ℕ) → unsigned_abs (linear_statistic us ss xs) ≤ greatest_score us * absolute_sum ss
statistic-size us [] xs = omega arith
statistic-size us (v ∷ ss) [] = omega arith
statistic-size us (v ∷ ss) (x ∷ xs) =
    let most : unsigned_abs (score_of us x) * unsigned_abs v ≤ greatest_score us * unsigned_abs v = mul-le-mul (score-within us x) (le_refl (unsigned_abs v)) in
    omega (arith, (unsigned_abs-mul (score_of us x) v), most, size-plus (score_of us x *ℤ v) (linear_statistic us ss xs), statistic-size us ss xs)

-- the scores of the subjects of some columns, each with as many as it has
pub subjects-size : (vs : List ℤ) (cs : List ℕ) (m : ℕ) → greatest_score vs ≤ m → absolute_sum (subjects vs cs) ≤ m * sum cs
subjects-size [] cs m h = omega arith
subjects-size (v ∷ vs) [] m h = omega arith
subjects-size (v ∷ vs) (c ∷ cs) m h =
    let one : c * unsigned_abs v ≤ c * m = mul-le-mul_left c (omega (arith, h)) in
    omega (arith, sizes-block c v (subjects vs cs), one, (ap (λ n. m * n) (sum_by-cons (λ v. v) c cs) ∙ apart m c (sum cs)), subjects-size vs cs m (omega (arith, h)))
  where
    apart : (m x y : ℕ) → m * (x + y) ≡ x * m + m * y
    apart m x y = omega arith

pub subjects-total : (vs : List ℤ) (cs : List ℕ) → row_sum vs cs ≡ total_score (subjects vs cs)
subjects-total [] cs = refl
subjects-total (v ∷ vs) [] = refl
subjects-total (v ∷ vs) (c ∷ cs) = ap (λ t. (pos c *ℤ v) +ℤ t) (subjects-total vs cs) ∙ sym (of-block c)
  where
    once : (n : ℕ) (s t : ℤ) → s +ℤ ((pos n *ℤ s) +ℤ t) ≡ (pos (suc n) *ℤ s) +ℤ t
    once n s t = omega (arith, ints)

    of-block : (n : ℕ) → total_score (replicate n v ++ subjects vs cs) ≡ (pos n *ℤ v) +ℤ total_score (subjects vs cs)
    of-block zero = rw (zero-*ℤ v) (sym (+ℤ_idl _))
    of-block (suc n) = ap (λ t. v +ℤ t) (of-block n) ∙ once n v _

-- ---- what the network ends at

pub drop-head : (g : ℕ) (scores : List ℤ) (s : ℤ) (ss : List ℤ) → drop g scores ≡ s ∷ ss → (score_of scores g ≡ s) × (drop (g + 1) scores ≡ ss)
drop-head zero [] s ss d = absurd (cc d)
drop-head (suc g) [] s ss d = absurd (cc d)
drop-head zero (v ∷ vs) s ss d = (cc, cc)
drop-head (suc g) (v ∷ vs) s ss d = let rest = drop-head g vs s ss d in (rest.0, rw (suc-add g 1) rest.1)

length-columns_of : (k : ℕ) (cs xs : List ℕ) → length (columns_of k cs xs) ≡ length cs
length-columns_of k [] xs = refl
length-columns_of k (c ∷ cs) xs = ap suc (length-columns_of k cs (drop c xs))

module _ (us : List ℤ) (rows : List ℕ) (vs : List ℤ) (columns : List ℕ) (judge : Judge) where
  value-from : (table : List (List ℕ)) (ss : List ℤ) (g : ℕ) (r : List ℕ) (p : List ℤ) → drop g vs ≡ ss → length ss ≡ length table
      → so_far (partial_after (linear_meaning us rows vs columns judge) g r p table) ≡ so_far p +ℤ table_sum us ss table
  value-from [] [] g r p d e = sym (+ℤ_idr (so_far p))
  value-from [] (s ∷ ss) g r p d e = absurd (omega (arith, e))
  value-from (x ∷ table) [] g r p d e = absurd (omega (arith, e))
  value-from (x ∷ table) (s ∷ ss) g r p d e =
      let here = drop-head g vs s ss d in
      value-from table ss (g + 1) (minus r x) ((so_far p +ℤ column_sum us vs g x) ∷ []) here.1 (omega (arith, e))
      ∙ ap (λ z. (so_far p +ℤ (z *ℤ row_sum us x)) +ℤ table_sum us ss table) here.0
      ∙ +ℤ_assoc (so_far p) (s *ℤ row_sum us x) (table_sum us ss table)

  pub statistic-value : length us ≡ length rows → length vs ≡ length columns → (xs : List ℕ) → linear_statistic us (subjects vs columns) xs ≡ labelling_value (linear_meaning us rows vs columns judge) xs
  statistic-value wide long xs =
      statistic-table us vs columns xs
      ∙ ap (λ k. table_sum us vs (columns_of k columns xs)) wide
      ∙ sym (value-from (columns_of (length rows) columns xs) vs 0 rows (pos 0 ∷ []) refl (long ∙ sym (length-columns_of (length rows) columns xs)) ∙ +ℤ_idl (table_sum us vs (columns_of (length rows) columns xs)))
