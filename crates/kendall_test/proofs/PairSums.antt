-- Pairs of subjects one after another, and how large K is.
use Rattle.std.proofs.Common.{◌≡◌, ℕ, zero, suc, ◌+◌, ◌*◌, ◌<◌, ◌≤◌, Bool, true, false, cond, List, [], ◌∷◌, length, get_or, take, refl, ap, arith}
use Rattle.std.specs.Prelude.{ℤ, pos, int_lt, nat_lt, unsigned_abs}
use Rattle.std.specs.List.{sum_by}
use Rattle.std.proofs.Math.Nat.{mul-le-mul}
use Rattle.std.proofs.lemmas.Int.{ints}
use Rattle.std.proofs.lemmas.List.{take_all}
use Rattle.std.proofs.lemmas.List.Sums.{sum_by-cons, sum_by_more}
use Rattle.sample_reader.specs.PooledSample.{paired_subjects}
use Rattle.sample_reader.specs.declared.subjects.Subject.{Subject}
use Rattle.sample_reader.proofs.PooledLemmas.{paired-few}
use Rattle.kendall_test.specs.Kendall.{kendall_statistic, one_where_greater, one_where_less, over_pairs}
use Rattle.kendall_test.specs.KendallSteps.{ordered, pairs_with}
use Rattle.pooled_columns.proofs.PooledValues.{length-paired}

abbrev pub no_subject : Subject
no_subject = record { value = pos 0; label = 0 }

paired-at : (firsts : List ℤ) (xs : List ℕ) (i : ℕ) → length xs ≡ length firsts → i < length firsts → get_or (paired_subjects firsts xs) i no_subject ≡ record { value = get_or firsts i (pos 0); label = get_or xs i 0 }
unfolding paired_subjects
paired-at [] xs i e h = absurd (omega (arith, h))
paired-at (v ∷ firsts) [] i e h = absurd (omega (arith, e))
paired-at (v ∷ firsts) (x ∷ xs) zero e h = refl
paired-at (v ∷ firsts) (x ∷ xs) (suc i) e h = paired-at firsts xs i (omega (arith, e)) (omega (arith, h))

module _ (concordant : Bool) (firsts : List ℤ) (xs : List ℕ) (long : length xs ≡ length firsts) where
  abbrev ss : List Subject
  ss = paired_subjects firsts xs

  -- one subject more that another is paired with
  pub with-next : (v : ℤ) (x i : ℕ) → i < length firsts → pairs_with concordant v x (take i ss) + cond (int_lt v (get_or firsts i (pos 0))) (ordered concordant x (get_or xs i 0)) 0 ≡ pairs_with concordant v x (take (i + 1) ss)
  with-next v x i h =
      let more = sum_by_more (λ (b : Subject). cond (int_lt v b.value) (ordered concordant x b.label) 0) ss i no_subject (omega (arith, h, length-paired firsts xs long)) in
      let term = ap (λ (b : Subject). cond (int_lt v b.value) (ordered concordant x b.label) 0) (paired-at firsts xs i long h) in
      omega (arith, more, term)

  pub with-all : (v : ℤ) (x i : ℕ) → length firsts ≤ i → pairs_with concordant v x (take i ss) ≡ pairs_with concordant v x ss
  with-all v x i h = ap (pairs_with concordant v x) (take_all i ss (omega (arith, h, length-paired firsts xs long)))

  -- one subject more
  pub over-next : (i : ℕ) → i < length firsts → over_pairs (ordered concordant) (take i ss) ss + pairs_with concordant (get_or firsts i (pos 0)) (get_or xs i 0) ss ≡ over_pairs (ordered concordant) (take (i + 1) ss) ss
  over-next i h =
      let more = sum_by_more (λ (a : Subject). pairs_with concordant a.value a.label ss) ss i no_subject (omega (arith, h, length-paired firsts xs long)) in
      let term = ap (λ (a : Subject). pairs_with concordant a.value a.label ss) (paired-at firsts xs i long h) in
      omega (arith, more, term)

  pub over-all : (i : ℕ) → length firsts ≤ i → over_pairs (ordered concordant) (take i ss) ss ≡ over_pairs (ordered concordant) ss ss
  over-all i h = ap (λ here. over_pairs (ordered concordant) here ss) (take_all i ss (omega (arith, h, length-paired firsts xs long)))

-- ---- how large K is

pub sum-few : {X : Type 0} (f : X → ℕ) (n : ℕ) → ((x : X) → f x ≤ n) → (xs : List X) → sum_by f xs ≤ n * length xs
sum-few f n each [] = omega arith
sum-few f n each (x ∷ xs) = omega (arith, sum_by-cons f x xs, each x, sum-few f n each xs)

one-at-most : (x y : ℕ) → one_where_less x y ≤ 1
one-at-most x y = by (nat_lt x y)
  where
    by : (b : Bool) → cond b 1 0 ≤ 1
    by true = omega arith
    by false = omega arith

over-few : (f : ℕ → ℕ → ℕ) → ((x y : ℕ) → f x y ≤ 1) → (ps bs : List Subject) (n : ℕ) → length ps ≤ n → length bs ≤ n → over_pairs f ps bs ≤ n * n
over-few f each ps bs n h l =
    let inner : (a : Subject) → sum_by (λ (b : Subject). cond (int_lt a.value b.value) (f a.label b.label) 0) bs ≤ n = λ a. omega (arith, sum-few (λ (b : Subject). cond (int_lt a.value b.value) (f a.label b.label) 0) 1 (λ b. by (int_lt a.value b.value) a.label b.label) bs, l) in
    let same : n ≤ n = omega arith in
    omega (arith, sum-few (λ (a : Subject). sum_by (λ (b : Subject). cond (int_lt a.value b.value) (f a.label b.label) 0) bs) n inner ps, mul-le-mul same h)
  where
    by : (b : Bool) (x y : ℕ) → cond b (f x y) 0 ≤ 1
    by true x y = each x y
    by false x y = omega arith

pub statistic-few : (firsts : List ℤ) (xs : List ℕ) → length firsts ≤ 120 → unsigned_abs (kendall_statistic firsts xs) ≤ 14400
statistic-few firsts xs few =
    let ss : List Subject = paired_subjects firsts xs in
    let most : length ss ≤ 120 = omega (arith, paired-few firsts xs, few) in
    omega (arith, ints, over-few one_where_less one-at-most ss ss 120 most most, over-few one_where_greater (λ x y. one-at-most y x) ss ss 120 most most)
