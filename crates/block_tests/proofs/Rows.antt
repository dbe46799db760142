-- The rows of blocks, and the cells of each.
use Rattle.std.proofs.Common.{◌≡◌, ℕ, zero, suc, ◌+◌, ◌*◌, ◌-◌, ◌<◌, ◌≤◌, List, [], ◌∷◌, length, take, drop, map, Bool, true, false, cond, int_lt, refl, sym, ◌∙◌, ap, subst, arith, inl, inr, length-take, length-drop}
use Rattle.std.specs.Prelude.{ℤ, nat_abs}
use Rattle.std.specs.List.{AllByRecursion, sum, sum_by}
use Rattle.std.specs.Ordering.{int_eq}
use Rattle.std.proofs.lemmas.Int.{ints}
use Rattle.std.proofs.lemmas.List.{length-map}
use Rattle.std.proofs.lemmas.List.Elements.{All-from_recursion, recursion_from_All}
use Rattle.std.proofs.lemmas.List.Sums.{sum_by-cons}
use Rattle.weights.proofs.Filters.{all_map, all_weaker}
use Rattle.weights.proofs.Sized.{length-counts_of}
use Rattle.weights.proofs.Sums.{sum_by-map, sum_by-plus, sum_by-same, sum_by-swap}
use Rattle.midranks.specs.Midranks.{doubled_midrank, doubled_midranks, midranks_among, number_below, number_equal}
use Rattle.midranks.proofs.Places.{doubled_midrank-most}
use Rattle.midranks.proofs.TieLemmas.{past, less-from_test, same-from_test, test-less, test-not_less, test-other, test-same}
use Rattle.sample_reader.specs.Values.{IsBinary}
use Rattle.block_tests.specs.BlockNetworks.{first_arrangement}
use Rattle.block_tests.specs.BlockSteps.{IsWhole}
use Rattle.block_tests.specs.BlockTests.{TakesCells, cells_below, cells_in, cell_counts, cut}
use Rattle.block_tests.specs.declared.kinds.BlockKind.{BlockKind}
use Rattle.block_tests.specs.declared.kinds.BlockKind.TheVariants.{Friedman, Page, Cochran}
use Rattle.block_tests.proofs.Arranged.{own-labelling, sum-counts, sum_by-first}

-- ---- lists that are cut

pub length-cut : {X : Type 0} (k n : ℕ) (xs : List X) → length (cut k n xs) ≡ n
length-cut k zero xs = refl
length-cut k (suc n) xs = ap suc (length-cut k n (drop k xs))

-- so many items are left
pub left-after : (k n m : ℕ) → m ≡ suc n * k → (k ≤ m) × (m - k ≡ n * k)
left-after k n m e = (let all : suc n * k ≡ k + n * k = omega arith in (omega (arith, e, all), omega (arith, e, all)))

pub each-row : {X : Type 0} (k n : ℕ) (xs : List X) → length xs ≡ n * k → AllByRecursion (λ row. length row ≡ k) (cut k n xs)
each-row k zero xs e = tt
each-row k (suc n) xs e =
    let left = left-after k n (length xs) e in
    (omega (arith, length-take k xs, left.0), each-row k n (drop k xs) (omega (arith, length-drop k xs, left.1)))

pub all-taken : {X : Type 0} (P : X → Type 0) (k : ℕ) (xs : List X) → AllByRecursion P xs → AllByRecursion P (take k xs) × AllByRecursion P (drop k xs)
all-taken P zero xs a = (tt, a)
all-taken P (suc k) [] a = (tt, tt)
all-taken P (suc k) (x ∷ xs) a = (let rest = all-taken P k xs a.1 in ((a.0, rest.0), rest.1))

-- ---- the cells that a test takes

pub taken-parts : (kind : BlockKind) (k : ℕ) (values : List ℤ) → TakesCells kind values → TakesCells kind (take k values) × TakesCells kind (drop k values)
taken-parts Friedman k values t = (tt, tt)
taken-parts Page k values t = (tt, tt)
taken-parts Cochran k values t = (let parts = all-taken IsBinary k values (recursion_from_All IsBinary values t) in (All-from_recursion IsBinary (take k values) parts.0, All-from_recursion IsBinary (drop k values) parts.1))

pub each-taken : (kind : BlockKind) (k n : ℕ) (values : List ℤ) → TakesCells kind values → AllByRecursion (TakesCells kind) (cut k n values)
each-taken kind k zero values t = tt
each-taken kind k (suc n) values t = (let parts = taken-parts kind k values t in (parts.0, each-taken kind k n (drop k values) parts.1))

ranks-below : (values : List ℤ) → AllByRecursion (λ z. z < 2 * length values + 1) (doubled_midranks values)
unfolding midranks_among
ranks-below values =
    all_map (λ z. z < 2 * length values + 1) (doubled_midrank values) values
    (recursion_from_All (λ v. doubled_midrank values v < 2 * length values + 1) values (λ i d h. (let most = doubled_midrank-most values i d h in omega (arith, most))))

binary-below : (values : List ℤ) → AllByRecursion IsBinary values → AllByRecursion (λ z. z < 2) (map nat_abs values)
binary-below [] a = tt
binary-below (v ∷ values) a = (one v a.0, binary-below values a.1)
  where
    one : (v : ℤ) → IsBinary v → nat_abs v < 2
    one v (inl e) = rw e (omega arith)
    one v (inr e) = rw e (omega arith)

pub cells-below : (kind : BlockKind) (values : List ℤ) → TakesCells kind values → AllByRecursion (λ z. z < cells_below kind (length values)) (cells_in kind values)
cells-below Friedman values t = ranks-below values
cells-below Page values t = ranks-below values
cells-below Cochran values t = binary-below values (recursion_from_All IsBinary values t)

pub length-cells : (kind : BlockKind) (values : List ℤ) → length (cells_in kind values) ≡ length values
unfolding midranks_among
length-cells Friedman values = length-map values (doubled_midrank values)
length-cells Page values = length-map values (doubled_midrank values)
length-cells Cochran values = length-map values nat_abs

pub below-few : (kind : BlockKind) (k : ℕ) → k ≤ 8 → cells_below kind k ≤ 17
below-few Friedman k h = omega arith
below-few Page k h = omega arith
below-few Cochran k h = omega arith

-- ---- one row

module _ (kind : BlockKind) (k : ℕ) (values : List ℤ) (narrow : k ≤ 8) (long : length values ≡ k) (taken : TakesCells kind values) where
  below : AllByRecursion (λ z. z < cells_below kind k) (cells_in kind values)
  below = subst (λ n. AllByRecursion (λ z. z < cells_below kind n) (cells_in kind values)) long (cells-below kind values taken)

  pub row-whole : IsWhole k (cell_counts kind k values)
  row-whole = record {
    treatments = sum-counts (cells_below kind k) (cells_in kind values) below ∙ length-cells kind values ∙ long;
    few = (let e : length (cell_counts kind k values) ≡ cells_below kind k = length-counts_of (cells_below kind k) (cells_in kind values) in omega (arith, e, below-few kind k narrow));
  }

  pub row-small : AllByRecursion (λ z. z ≤ 16) (cells_in kind values)
  row-small = all_weaker (λ z. z < cells_below kind k) (λ z. z ≤ 16) (λ z h. omega (arith, h, below-few kind k narrow)) (cells_in kind values) below

  pub row-sum : sum (first_arrangement (cell_counts kind k values)) ≡ sum (cells_in kind values)
  row-sum = sym (sum_by-first (λ v. v) (cell_counts kind k values) (cells_in kind values) (own-labelling (cells_below kind k) (cells_in kind values) below))

-- ---- the sum of midranks

-- of two values, which is less, counted twice, and whether they are equal
compared : ℤ → ℤ → ℕ
compared v w = 2 * cond (int_lt w v) 1 0 + cond (int_eq w v) 1 0

compared-is : (v w : ℤ) (b c : Bool) → int_lt w v ≡ b → int_eq w v ≡ c → compared v w ≡ 2 * cond b 1 0 + cond c 1 0
unfolding compared
compared-is v w b c p q = ap (λ x. 2 * cond x 1 0 + cond (int_eq w v) 1 0) p ∙ ap (λ x. 2 * cond b 1 0 + cond x 1 0) q

compared-by : (v w : ℤ) (b c d e : Bool) → int_lt w v ≡ b → int_eq w v ≡ c → int_lt v w ≡ d → int_eq v w ≡ e → (2 * cond b 1 0 + cond c 1 0) + (2 * cond d 1 0 + cond e 1 0) ≡ 2 → compared v w + compared w v ≡ 2
compared-by v w b c d e p q r s sum_is =
    ap (λ n. n + compared w v) (compared-is v w b c p q) ∙ ap (λ n. (2 * cond b 1 0 + cond c 1 0) + n) (compared-is w v d e r s) ∙ sum_is

compared-both : (v w : ℤ) → compared v w + compared w v ≡ 2
compared-both v w = by (int_lt w v) (int_eq w v) refl refl
  where
    by : (b c : Bool) → int_lt w v ≡ b → int_eq w v ≡ c → compared v w + compared w v ≡ 2
    by true c e f =
        let less = less-from_test w v e in
        compared-by v w true false false false e (test-other w v (λ s. absurd (omega (arith, ints, less, s)))) (test-not_less v w (omega (arith, ints, less))) (test-other v w (λ s. absurd (omega (arith, ints, less, s)))) refl
    by false true e f =
        let same = same-from_test w v f in
        compared-by v w false true false true e f (test-not_less v w (omega (arith, ints, same))) (test-same v w (sym same)) refl
    by false false e f =
        let more = past w v e f in
        compared-by v w false false true false e f (test-less v w more) (test-other v w (λ s. absurd (omega (arith, ints, more, s)))) refl

twos : (xs : List ℤ) → sum_by (λ w. 2) xs ≡ 2 * length xs
twos [] = refl
twos (x ∷ xs) = omega (arith, sum_by-cons (λ w. 2) x xs, twos xs)

each-twos : (n : ℕ) (xs : List ℤ) → sum_by (λ w. n) xs ≡ length xs * n
each-twos n [] = omega arith
each-twos n (x ∷ xs) = omega (arith, sum_by-cons (λ w. n) x xs, each-twos n xs)

-- all pairs of values
pairs-sum : (values : List ℤ) → 2 * sum_by (λ v. sum_by (compared v) values) values ≡ length values * (2 * length values)
pairs-sum values =
    let one : ℕ = sum_by (λ v. sum_by (compared v) values) values in
    let other : ℕ = sum_by (λ v. sum_by (λ w. compared w v) values) values in
    let same : one ≡ other = sum_by-swap compared values values in
    let joined : sum_by (λ v. sum_by (compared v) values + sum_by (λ w. compared w v) values) values ≡ one + other = sum_by-plus (λ v. sum_by (compared v) values) (λ v. sum_by (λ w. compared w v) values) values in
    let each : sum_by (λ v. sum_by (compared v) values + sum_by (λ w. compared w v) values) values ≡ sum_by (λ v. 2 * length values) values =
    sum_by-same (λ v. sum_by (compared v) values + sum_by (λ w. compared w v) values) (λ v. 2 * length values)
    (λ v. sym (sum_by-plus (compared v) (λ w. compared w v) values) ∙ sum_by-same (λ w. compared v w + compared w v) (λ w. 2) (λ w. compared-both v w) values ∙ twos values) values in
    omega (arith, same, joined, each, each-twos (2 * length values) values)

pairs-of : (values others : List ℤ) (v : ℤ) → 2 * number_below others v + number_equal others v ≡ sum_by (compared v) others
unfolding compared number_below number_equal
pairs-of values [] v = refl
pairs-of values (w ∷ others) v = omega (arith, sum_by-cons (λ w. cond (int_lt w v) 1 0) w others, sum_by-cons (λ w. cond (int_eq w v) 1 0) w others, sum_by-cons (compared v) w others, pairs-of values others v)

ranks-from : (all values : List ℤ) → sum_by (doubled_midrank all) values ≡ sum_by (λ v. sum_by (compared v) all) values + length values
unfolding doubled_midrank
ranks-from all [] = refl
ranks-from all (v ∷ values) = omega (arith, sum_by-cons (doubled_midrank all) v values, sum_by-cons (λ v. sum_by (compared v) all) v values, pairs-of all all v, ranks-from all values)

pub midranks-sum : (values : List ℤ) → sum (doubled_midranks values) ≡ length values * (length values + 1)
unfolding midranks_among
midranks-sum values =
    let n : ℕ = length values in
    let sum_is : sum (map (doubled_midrank values) values) ≡ sum_by (doubled_midrank values) values = sum_by-map (λ v. v) (doubled_midrank values) values in
    let pairs : 2 * sum_by (λ v. sum_by (compared v) values) values ≡ n * (2 * n) = pairs-sum values in
    let half : sum_by (λ v. sum_by (compared v) values) values ≡ n * n = halved (sum_by (λ v. sum_by (compared v) values) values) n pairs in
    omega (arith, sum_is, ranks-from values values, half)
  where
    halved : (a n : ℕ) → 2 * a ≡ n * (2 * n) → a ≡ n * n
    halved a n e = omega arith
