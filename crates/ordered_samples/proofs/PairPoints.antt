-- The interval of counted points narrows along every choice.
use Rattle.std.proofs.Common.{◌≡◌, ℕ, zero, suc, ◌+◌, ◌-◌, ◌*◌, ◌≤◌, List, [], ◌∷◌, length, get_or, true, refl, sym, ◌∙◌, ap, arith}
use Rattle.std.specs.Prelude.{ℤ, pos, ◌+ℤ◌, ◌≤ℤ◌, nat_abs, slice_index}
use Rattle.std.specs.List.{sum}
use Rattle.std.proofs.Math.Seq.{drop-length}
use Rattle.std.proofs.lemmas.Int.{ints}
use Rattle.std.proofs.lemmas.List.Sums.{sum_by-cons}
use Rattle.networks.specs.declared.verdicts.Judge.{Judge}
use Rattle.weights.specs.Grouped.{fits, minus}
use Rattle.weights.proofs.Sums.{sum_by-plus, sum_by-scaled}
use Rattle.room_network.specs.Numbers.{so_far}
use Rattle.label_network.specs.Meanings.{AreReached, IsMeasure}
use Rattle.label_network.proofs.Narrowing.{IsLeft, IsNarrowing, measured, reached-kept, reached-left}
use Rattle.label_network.proofs.Rearranging.{get-minus}
use Rattle.label_network.proofs.Rows.{get-within}
use Rattle.ordered_samples.specs.declared.used_pairs.UsedPair.{UsedPair}
use Rattle.ordered_samples.specs.PairCounts.{column_points, open_points, pairs_meaning, placed, sure_points}
use Rattle.ordered_samples.specs.Umbrella.{subject_pairs}
use Rattle.ordered_samples.specs.UmbrellaSteps.{IsCounting}

-- p placed, a and b left after x and y are taken
one-low : (p x y b : ℕ) → 2 * (p * (b + y)) ≤ (2 * (p * y) + x * y) + 2 * ((p + x) * b)
one-low p x y b = grind arith

one-high : (p a x y b : ℕ) → (2 * (p * y) + x * y) + (2 * ((p + x) * b) + 2 * (a * b)) ≤ 2 * (p * (b + y)) + 2 * ((a + x) * (b + y))
one-high p a x y b = grind arith

-- of sizes R the lesser group has r left, the greater one s
pair-low : (R r x s y : ℕ) → r ≤ R → x ≤ r → y ≤ s → 2 * ((R - r) * s) ≤ (2 * ((R - r) * y) + x * y) + 2 * ((R - (r - x)) * (s - y))
pair-low R r x s y h i j =
    let one : R - (r - x) ≡ (R - r) + x = omega (arith, h, i) in
    let two : s ≡ (s - y) + y = omega (arith, j) in
    rw one (omega (arith, one-low (R - r) x y (s - y), ap (λ n. (R - r) * n) two))

pair-high : (R r x s y : ℕ) → r ≤ R → x ≤ r → y ≤ s → (2 * ((R - r) * y) + x * y) + (2 * ((R - (r - x)) * (s - y)) + 2 * ((r - x) * (s - y))) ≤ 2 * ((R - r) * s) + 2 * (r * s)
pair-high R r x s y h i j =
    let one : R - (r - x) ≡ (R - r) + x = omega (arith, h, i) in
    let two : s ≡ (s - y) + y = omega (arith, j) in
    let three : r ≡ (r - x) + x = omega (arith, i) in
    rw one (omega (arith, one-high (R - r) (r - x) x y (s - y), ap (λ n. (R - r) * n) two, (ap (λ n. n * s) three ∙ ap (λ n. ((r - x) + x) * n) two)))

pub open-is : (qs : List UsedPair) (r : List ℕ) → open_points qs r ≡ 2 * subject_pairs qs r
open-is qs r = sum_by-scaled 2 (λ (q : UsedPair). slice_index r q.lesser * slice_index r q.greater) qs

-- were all remaining subjects equal, they would add this
pub middle-is : (qs : List UsedPair) (rows r : List ℕ) → column_points qs rows r r ≡ sure_points qs rows r + subject_pairs qs r
middle-is qs rows r = sum_by-plus (λ (q : UsedPair). 2 * (placed rows r q.lesser * slice_index r q.greater)) (λ (q : UsedPair). slice_index r q.lesser * slice_index r q.greater) qs

module _ (rows r x : List ℕ) (f : fits r rows ≡ true) (h : fits x r ≡ true) where
  pub points-rise : (qs : List UsedPair) → sure_points qs rows r ≤ column_points qs rows r x + sure_points qs rows (minus r x)
  points-rise [] = omega arith
  points-rise (q ∷ qs) =
      let here = pair-low (get_or rows q.lesser 0) (get_or r q.lesser 0) (get_or x q.lesser 0) (get_or r q.greater 0) (get_or x q.greater 0) (get-within rows r q.lesser f) (get-within r x q.lesser h) (get-within r x q.greater h) in
      let there = rw (← get-minus r x q.lesser h, ← get-minus r x q.greater h) at here in
      omega (
        arith,
        there,
        points-rise qs,
        sum_by-cons (λ (q : UsedPair). 2 * (placed rows r q.lesser * slice_index r q.greater)) q qs,
        sum_by-cons (λ (q : UsedPair). 2 * (placed rows r q.lesser * slice_index x q.greater) + slice_index x q.lesser * slice_index x q.greater) q qs,
        sum_by-cons (λ (q : UsedPair). 2 * (placed rows (minus r x) q.lesser * slice_index (minus r x) q.greater)) q qs,
      )

  pub points-fall : (qs : List UsedPair) → column_points qs rows r x + (sure_points qs rows (minus r x) + open_points qs (minus r x)) ≤ sure_points qs rows r + open_points qs r
  points-fall [] = omega arith
  points-fall (q ∷ qs) =
      let here = pair-high (get_or rows q.lesser 0) (get_or r q.lesser 0) (get_or x q.lesser 0) (get_or r q.greater 0) (get_or x q.greater 0) (get-within rows r q.lesser f) (get-within r x q.lesser h) (get-within r x q.greater h) in
      let there = rw (← get-minus r x q.lesser h, ← get-minus r x q.greater h) at here in
      omega (
        arith,
        there,
        points-fall qs,
        sum_by-cons (λ (q : UsedPair). 2 * (placed rows r q.lesser * slice_index r q.greater)) q qs,
        sum_by-cons (λ (q : UsedPair). 2 * (slice_index r q.lesser * slice_index r q.greater)) q qs,
        sum_by-cons (λ (q : UsedPair). 2 * (placed rows r q.lesser * slice_index x q.greater) + slice_index x q.lesser * slice_index x q.greater) q qs,
        sum_by-cons (λ (q : UsedPair). 2 * (placed rows (minus r x) q.lesser * slice_index (minus r x) q.greater)) q qs,
        sum_by-cons (λ (q : UsedPair). 2 * (slice_index (minus r x) q.lesser * slice_index (minus r x) q.greater)) q qs,
      )

-- nothing is left
at-none : (r : List ℕ) (i : ℕ) → sum r ≡ 0 → get_or r i 0 ≡ 0
at-none [] i e = refl
at-none (r ∷ rs) zero e = omega (arith, e, sum_by-cons (λ v. v) r rs)
at-none (r ∷ rs) (suc i) e = at-none rs i (omega (arith, e, sum_by-cons (λ v. v) r rs))

no-times : (p b : ℕ) → b ≡ 0 → 2 * (p * b) ≡ 0
no-times p b e = rw e (omega arith)

pub sure-none : (qs : List UsedPair) (rows r : List ℕ) → sum r ≡ 0 → sure_points qs rows r ≡ 0
sure-none [] rows r e = refl
sure-none (q ∷ qs) rows r e = omega (arith, sum_by-cons (λ (q : UsedPair). 2 * (placed rows r q.lesser * slice_index r q.greater)) q qs, no-times (placed rows r q.lesser) (slice_index r q.greater) (at-none r q.greater e), sure-none qs rows r e)

pub open-none : (qs : List UsedPair) (r : List ℕ) → sum r ≡ 0 → open_points qs r ≡ 0
open-none [] r e = refl
open-none (q ∷ qs) r e = omega (arith, sum_by-cons (λ (q : UsedPair). 2 * (slice_index r q.lesser * slice_index r q.greater)) q qs, no-times (slice_index r q.lesser) (slice_index r q.greater) (at-none r q.greater e), open-none qs r e)

-- before the first column nothing is placed
pub sure-first : (qs : List UsedPair) (rows : List ℕ) → sure_points qs rows rows ≡ 0
sure-first [] rows = refl
sure-first (q ∷ qs) rows = omega (arith, sum_by-cons (λ (q : UsedPair). 2 * (placed rows rows q.lesser * slice_index rows q.greater)) q qs, none (slice_index rows q.lesser) (slice_index rows q.greater), sure-first qs rows)
  where
    none : (a b : ℕ) → 2 * ((a - a) * b) ≡ 0
    none a b = let e : a - a ≡ 0 = omega arith in rw e (omega arith)

-- the partial is one number, and with all that can still be added no more than all pairs add
pub record IsPartial (qs : List UsedPair) (rows : List ℕ) (g : ℕ) (r : List ℕ) (p : List ℤ) : Type 0 where
  pub one : length p ≡ 1
  pub whole : so_far p ≡ pos (nat_abs (so_far p))
  pub most : nat_abs (so_far p) + (sure_points qs rows r + open_points qs r) ≤ 2 * subject_pairs qs rows

module _ (qs : List UsedPair) (rows columns : List ℕ) (judge : Judge) where
  none-left : (r : List ℕ) → IsLeft (pairs_meaning qs rows columns judge) (length columns) r → sum r ≡ 0
  none-left r l = sym l.whole ∙ ap sum (drop-length columns)

  grown : (s : ℤ) (n : ℕ) → s ≡ pos (nat_abs s) → (s +ℤ pos n ≡ pos (nat_abs (s +ℤ pos n))) × (nat_abs (s +ℤ pos n) ≡ nat_abs s + n)
  grown s n e = (omega (arith, ints, e), omega (arith, ints, e))

  risen : (s : ℤ) (a b c : ℕ) → a ≤ b + c → (s +ℤ pos a) ≤ℤ ((s +ℤ pos b) +ℤ pos c)
  risen s a b c h = omega (arith, ints, h)

  fallen : (s : ℤ) (a b c : ℕ) → b + c ≤ a → ((s +ℤ pos b) +ℤ pos c) ≤ℤ (s +ℤ pos a)
  fallen s a b c h = omega (arith, ints, h)

  plus-none : (s : ℤ) (n : ℕ) → n ≡ 0 → s +ℤ pos n ≡ s
  plus-none s n e = omega (arith, ints, e)

  pub pairs_narrowing : IsNarrowing (pairs_meaning qs rows columns judge) (IsPartial qs rows)
  pairs_narrowing = record {
    keeps = λ g r x p before l c k.
        let sum = grown (so_far p) (column_points qs rows r x) k.whole in
        record {
          one = refl;
          whole = sum.0;
          most = omega (arith, sum.1, k.most, points-fall rows r x l.within c.fitting qs);
        };
    rises = λ g r x p before l c k. risen (so_far p) _ _ _ (points-rise rows r x l.within c.fitting qs);
    falls = λ g r x p before l c k. fallen (so_far p) _ _ _ (points-fall rows r x l.within c.fitting qs);
    low_end = λ r p l k. plus-none (so_far p) (sure_points qs rows r) (sure-none qs rows r (none-left r l));
    high_end = λ r p l k. plus-none (so_far p) (sure_points qs rows r + open_points qs r) (omega (arith, sure-none qs rows r (none-left r l), open-none qs r (none-left r l)));
  }

  first-partial : IsPartial qs rows 0 rows (pos 0 ∷ [])
  first-partial = record { one = refl; whole = refl; most = omega (arith, sure-first qs rows, open-is qs rows) }

  module _ (h : IsCounting qs rows columns judge) where
    pub pairs_measure : IsMeasure (pairs_meaning qs rows columns judge)
    pairs_measure = measured (pairs_meaning qs rows columns judge) h.level (IsPartial qs rows) pairs_narrowing first-partial (λ g r p k. k.one)

    pub reached_partial : (g : ℕ) (r : List ℕ) (p : List ℤ) → AreReached (pairs_meaning qs rows columns judge) g r p → IsPartial qs rows g r p
    reached_partial g r p a = reached-kept (pairs_meaning qs rows columns judge) h.level (IsPartial qs rows) pairs_narrowing first-partial g r p a

    pub reached_left : (g : ℕ) (r : List ℕ) (p : List ℤ) → AreReached (pairs_meaning qs rows columns judge) g r p → IsLeft (pairs_meaning qs rows columns judge) g r
    reached_left g r p a = reached-left (pairs_meaning qs rows columns judge) h.level g r p a
