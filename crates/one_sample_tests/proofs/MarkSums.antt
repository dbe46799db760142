-- Sums over all lists of marks, of a function of the sum of the plus marks' scores: subjects may change places, and those who share a score count by how many of them are plus.
use Rattle.std.proofs.Common.{◌≡◌, ℕ, zero, suc, ◌+◌, ◌*◌, ◌^◌, ◌≤◌, Bool, true, false, cond, List, [], ◌∷◌, ◌++◌, length, refl, sym, ◌∙◌, ap, arith, add-one}
use Rattle.std.specs.Prelude.{ℤ, pos, ◌+ℤ◌, ◌*ℤ◌, int_lt, replicate}
use Rattle.std.specs.List.{sum_by, range_with_len}
use Rattle.std.specs.Ordering.{int_eq}
use Rattle.std.proofs.Math.IntN.{zero-*ℤ, suc_ℤ-*ℤ}
use Rattle.std.proofs.Math.Nat.{pow-suc}
use Rattle.std.proofs.lemmas.Int.{ints}
use Rattle.std.proofs.lemmas.List.Sums.{sum_by-cons}
use Rattle.weights.specs.Labellings.{labels, lists_over, sign_lists}
use Rattle.weights.specs.Numbers.{binomial}
use Rattle.weights.proofs.Binomials.{binomial-over, binomial-pascal, binomial-zero}
use Rattle.weights.proofs.Sums.{sum_by-fronts, sum_by-plus, sum_by-same}
use Rattle.midranks.specs.Ties.{tie_groups, with_one_more}
use Rattle.midranks.specs.declared.ties.Tie.{Tie}
use Rattle.midranks.proofs.TieLemmas.{same-from_test}
use Rattle.scores.specs.Scores.{labelled_sum}
use Rattle.one_sample_tests.specs.SampleSteps.{subjects_of}

-- the first subject's mark is minus or plus
abbrev pub over_marks : List ℤ → (ℤ → ℕ) → ℕ
over_marks [] f = f (pos 0)
over_marks (s ∷ scores) f = over_marks scores f + over_marks scores (λ t. f (s +ℤ t))

pub over-same : (scores : List ℤ) (f g : ℤ → ℕ) → ((t : ℤ) → f t ≡ g t) → over_marks scores f ≡ over_marks scores g
over-same [] f g e = e (pos 0)
over-same (s ∷ scores) f g e = omega (arith, over-same scores f g e, over-same scores (λ t. f (s +ℤ t)) (λ t. g (s +ℤ t)) (λ t. e (s +ℤ t)))

zero-plus : (t : ℤ) → pos 0 +ℤ t ≡ t
zero-plus t = omega (arith, ints)

-- of lists of marks
pub by_marks : (scores : List ℤ) (f : ℤ → ℕ) → sum_by (λ r. f (labelled_sum 1 scores r)) (sign_lists (length scores)) ≡ over_marks scores f
by_marks [] f = sum_by-cons (λ r. f (labelled_sum 1 [] r)) [] [] ∙ omega arith
by_marks (s ∷ scores) f =
    let m : ℕ = length scores in
    let parts = λ (l : ℕ). sum_by (λ rest. f (labelled_sum 1 (s ∷ scores) (l ∷ rest))) (lists_over m 2) in
    let minus : parts 0 ≡ over_marks scores f = sum_by-same (λ rest. f (labelled_sum 1 (s ∷ scores) (0 ∷ rest))) (λ rest. f (labelled_sum 1 scores rest)) (λ rest. ap f (zero-plus (labelled_sum 1 scores rest))) (lists_over m 2) ∙ by_marks scores f in
    let plus : parts 1 ≡ over_marks scores (λ t. f (s +ℤ t)) = by_marks scores (λ t. f (s +ℤ t)) in
    sum_by-fronts (λ r. f (labelled_sum 1 (s ∷ scores) r)) (λ l. l) (λ l. lists_over m 2) (labels 2)
    ∙ omega (arith, sum_by-cons parts 0 (1 ∷ []), sum_by-cons parts 1 [], minus, plus)

pub number_of_marks : (m : ℕ) → sum_by (λ signs. 1) (sign_lists m) ≡ 2 ^ m
number_of_marks zero = refl
number_of_marks (suc m) =
    let parts = λ (l : ℕ). sum_by (λ (rest : List ℕ). 1) (lists_over m 2) in
    sum_by-fronts (λ signs. 1) (λ l. l) (λ l. lists_over m 2) (labels 2)
    ∙ omega (arith, sum_by-cons parts 0 (1 ∷ []), sum_by-cons parts 1 [], number_of_marks m, pow-suc 2 m)

-- ---- subjects change places

around : (s t u : ℤ) → s +ℤ (t +ℤ u) ≡ t +ℤ (s +ℤ u)
around s t u = omega (arith, ints)

swapped : (s t : ℤ) (scores : List ℤ) (f : ℤ → ℕ) → over_marks (s ∷ t ∷ scores) f ≡ over_marks (t ∷ s ∷ scores) f
swapped s t scores f = omega (arith, over-same scores (λ u. f (s +ℤ (t +ℤ u))) (λ u. f (t +ℤ (s +ℤ u))) (λ u. ap f (around s t u)))

to-front : (xs : List ℤ) (v : ℤ) (ys : List ℤ) (f : ℤ → ℕ) → over_marks (xs ++ v ∷ ys) f ≡ over_marks (v ∷ (xs ++ ys)) f
to-front [] v ys f = refl
to-front (x ∷ xs) v ys f =
    let moved : over_marks (x ∷ (xs ++ v ∷ ys)) f ≡ over_marks (x ∷ v ∷ (xs ++ ys)) f = omega (arith, to-front xs v ys f, to-front xs v ys (λ t. f (x +ℤ t))) in
    moved ∙ swapped x v (xs ++ ys) f

behind : (n : ℕ) (x : ℤ) (ys zs : List ℤ) → ((f : ℤ → ℕ) → over_marks ys f ≡ over_marks zs f) → (f : ℤ → ℕ) → over_marks (replicate n x ++ ys) f ≡ over_marks (replicate n x ++ zs) f
behind zero x ys zs e f = e f
behind (suc n) x ys zs e f = omega (arith, behind n x ys zs e f, behind n x ys zs e (λ t. f (x +ℤ t)))

one-longer : (n : ℕ) (x y : ℤ) (rest : List ℤ) → x ≡ y → replicate (n + 1) y ++ rest ≡ x ∷ (replicate n y ++ rest)
one-longer n x y rest e = rw (add-one, e) refl

grown : (v : ℤ) (ts : List Tie) (f : ℤ → ℕ) → over_marks (subjects_of (with_one_more v ts)) f ≡ over_marks (v ∷ subjects_of ts) f
grown v [] f = refl
grown v (t ∷ ts) f = by (int_lt v t.value) (int_eq v t.value) refl (grown v ts)
  where
    by : (b c : Bool) → int_eq v t.value ≡ c → ((g : ℤ → ℕ) → over_marks (subjects_of (with_one_more v ts)) g ≡ over_marks (v ∷ subjects_of ts) g)
        → over_marks (subjects_of (cond b (record { value = v; count = 1 } ∷ t ∷ ts) (cond c (record { value = v; count = t.count + 1 } ∷ ts) (t ∷ with_one_more v ts)))) f ≡ over_marks (v ∷ subjects_of (t ∷ ts)) f
    by true c e rest = refl
    by false true e rest = let same = same-from_test v t.value e in ap (λ xs. over_marks xs f) (one-longer t.count v v (subjects_of ts) refl ∙ ap (λ x. v ∷ (replicate t.count x ++ subjects_of ts)) same)
    by false false e rest = behind t.count t.value (subjects_of (with_one_more v ts)) (v ∷ subjects_of ts) rest f ∙ to-front (replicate t.count t.value) v (subjects_of ts) f

-- in the file's order or by the tie groups of their scores
pub by_groups : (scores : List ℤ) (f : ℤ → ℕ) → over_marks scores f ≡ over_marks (subjects_of (tie_groups scores)) f
unfolding tie_groups
by_groups [] f = refl
by_groups (s ∷ scores) f =
    let rest : over_marks (s ∷ scores) f ≡ over_marks (s ∷ subjects_of (tie_groups scores)) f = omega (arith, by_groups scores f, by_groups scores (λ t. f (s +ℤ t))) in
    rest ∙ sym (grown s (tie_groups scores) f)

-- ---- subjects who share a score, by how many are plus

shifted : (g : ℕ → ℕ) (s n : ℕ) → sum_by g (range_with_len (suc s) n) ≡ sum_by (λ j. g (suc j)) (range_with_len s n)
shifted g s zero = refl
shifted g s (suc n) =
    let next : suc s + 1 ≡ suc (s + 1) = omega arith in
    sum_by-cons g (suc s) (range_with_len (suc s + 1) n) ∙ rw next (ap (λ x. g (suc s) + x) (shifted g (s + 1) n)) ∙ sym (sum_by-cons (λ j. g (suc j)) s (range_with_len (s + 1) n))

one-further : (g : ℕ → ℕ) (s n : ℕ) → sum_by g (range_with_len s (suc n)) ≡ sum_by g (range_with_len s n) + g (s + n)
one-further g s zero = let here : s + 0 ≡ s = omega arith in sum_by-cons g s [] ∙ rw here (omega arith)
one-further g s (suc n) =
    let here : (s + 1) + n ≡ s + suc n = omega arith in
    let rest : sum_by g (range_with_len (s + 1) (suc n)) ≡ sum_by g (range_with_len (s + 1) n) + g (s + suc n) = rw here at (one-further g (s + 1) n) in
    omega (arith, sum_by-cons g s (range_with_len (s + 1) (suc n)), sum_by-cons g s (range_with_len (s + 1) n), rest)

from-zero : (g : ℕ → ℕ) (n : ℕ) → sum_by g (range_with_len 0 (suc n)) ≡ g 0 + sum_by (λ j. g (suc j)) (range_with_len 0 n)
from-zero g n = sum_by-cons g 0 (range_with_len (0 + 1) n) ∙ ap (λ x. g 0 + x) (shifted g 0 n)

-- the sum over the numbers of plus marks among m
abbrev pub over_plus : ℕ → (ℕ → ℕ) → ℕ
over_plus m f = sum_by (λ j. binomial m j * f j) (range_with_len 0 (suc m))

-- the first mark is minus or plus
pascal : (m : ℕ) (f : ℕ → ℕ) → over_plus (suc m) f ≡ over_plus m f + over_plus m (λ j. f (suc j))
pascal m f =
    let first = from-zero (λ j. binomial (suc m) j * f j) (suc m) in
    let split : sum_by (λ j. binomial (suc m) (suc j) * f (suc j)) (range_with_len 0 (suc m)) ≡ sum_by (λ j. binomial m j * f (suc j)) (range_with_len 0 (suc m)) + sum_by (λ j. binomial m (suc j) * f (suc j)) (range_with_len 0 (suc m)) =
    sum_by-same (λ j. binomial (suc m) (suc j) * f (suc j)) (λ j. binomial m j * f (suc j) + binomial m (suc j) * f (suc j)) (λ j. term j (f (suc j))) (range_with_len 0 (suc m))
    ∙ sum_by-plus (λ j. binomial m j * f (suc j)) (λ j. binomial m (suc j) * f (suc j)) (range_with_len 0 (suc m)) in
    let again : sum_by (λ j. binomial m j * f j) (range_with_len 0 (suc (suc m))) ≡ binomial m 0 * f 0 + sum_by (λ j. binomial m (suc j) * f (suc j)) (range_with_len 0 (suc m)) = from-zero (λ j. binomial m j * f j) (suc m) in
    let last : sum_by (λ j. binomial m j * f j) (range_with_len 0 (suc (suc m))) ≡ over_plus m f + binomial m (0 + suc m) * f (0 + suc m) = one-further (λ j. binomial m j * f j) 0 (suc m) in
    let none : binomial m (0 + suc m) * f (0 + suc m) ≡ 0 = rw (binomial-over m (0 + suc m) (omega arith)) (omega arith) in
    let same : binomial (suc m) 0 * f 0 ≡ binomial m 0 * f 0 = rw (binomial-zero (suc m), binomial-zero m) refl in
    omega (arith, first, split, again, last, none, same)
  where
    term : (j x : ℕ) → binomial (suc m) (suc j) * x ≡ binomial m j * x + binomial m (suc j) * x
    term j x = rw (binomial-pascal m j) (omega arith)

plus-same : (m : ℕ) (f g : ℕ → ℕ) → ((j : ℕ) → f j ≡ g j) → over_plus m f ≡ over_plus m g
plus-same m f g e = sum_by-same (λ j. binomial m j * f j) (λ j. binomial m j * g j) (λ j. ap (λ n. binomial m j * n) (e j)) (range_with_len 0 (suc m))

one-plus : (f : ℕ → ℕ) → over_plus 0 f ≡ f 0
one-plus f = sum_by-cons (λ j. binomial 0 j * f j) 0 [] ∙ rw (binomial-zero 0) (omega arith)

none-times : (v t : ℤ) → (pos 0 *ℤ v) +ℤ t ≡ t
none-times v t = rw (zero-*ℤ v) (zero-plus t)

one-more : (j : ℕ) (v t : ℤ) → v +ℤ ((pos j *ℤ v) +ℤ t) ≡ (pos (suc j) *ℤ v) +ℤ t
one-more j v t = let e : pos (suc j) *ℤ v ≡ (pos j *ℤ v) +ℤ v = suc_ℤ-*ℤ (pos j) v in omega (arith, ints, e)

pub by_plus : (n : ℕ) (v : ℤ) (rest : List ℤ) (f : ℤ → ℕ) → over_marks (replicate n v ++ rest) f ≡ over_plus n (λ j. over_marks rest (λ t. f ((pos j *ℤ v) +ℤ t)))
by_plus zero v rest f = sym (one-plus (λ j. over_marks rest (λ t. f ((pos j *ℤ v) +ℤ t))) ∙ over-same rest (λ t. f ((pos 0 *ℤ v) +ℤ t)) f (λ t. ap f (none-times v t)))
by_plus (suc n) v rest f =
    let of = λ (j : ℕ). over_marks rest (λ t. f ((pos j *ℤ v) +ℤ t)) in
    let minus : over_marks (replicate n v ++ rest) f ≡ over_plus n of = by_plus n v rest f in
    let plus : over_marks (replicate n v ++ rest) (λ t. f (v +ℤ t)) ≡ over_plus n (λ j. of (suc j)) =
    by_plus n v rest (λ t. f (v +ℤ t))
    ∙ plus-same n (λ j. over_marks rest (λ t. f (v +ℤ ((pos j *ℤ v) +ℤ t)))) (λ j. of (suc j)) (λ j. over-same rest (λ t. f (v +ℤ ((pos j *ℤ v) +ℤ t))) (λ t. f ((pos (suc j) *ℤ v) +ℤ t)) (λ t. ap f (one-more j v t))) in
    omega (arith, minus, plus, pascal n of)

-- so many in all
pub all_plus : (n : ℕ) → sum_by (λ j. binomial n j) (range_with_len 0 (suc n)) ≡ 2 ^ n
all_plus n = sum_by-same (binomial n) (λ j. binomial n j * 1) (λ j. omega arith) (range_with_len 0 (suc n)) ∙ many n
  where
    many : (n : ℕ) → over_plus n (λ j. 1) ≡ 2 ^ n
    many zero = one-plus (λ j. 1)
    many (suc n) = omega (arith, pascal n (λ j. 1), many n, pow-suc 2 n)

pub binomial-small : (n k : ℕ) → binomial n k ≤ 2 ^ n
unfolding binomial
binomial-small n zero = some n
  where
    some : (n : ℕ) → 1 ≤ 2 ^ n
    some zero = omega arith
    some (suc n) = omega (arith, some n, pow-suc 2 n)
binomial-small zero (suc k) = omega arith
binomial-small (suc n) (suc k) = omega (arith, binomial-small n k, binomial-small n (suc k), pow-suc 2 n)
