-- The points of a labelling, column by column, are those of its pairs of subjects.
use Rattle.std.proofs.Common.{◌≡◌, ℕ, zero, suc, ◌+◌, ◌-◌, ◌*◌, ◌<◌, ◌≤◌, Bool, true, false, cond, List, [], ◌∷◌, ◌++◌, map, length, get_or, take, drop, refl, sym, ◌∙◌, ap, arith, nat_eq, ◌≢◌, length-append}
use Rattle.std.proofs.Math.Nat.{zero-add}
use Rattle.std.specs.Prelude.{ℤ, pos, ◌+ℤ◌, ◌<ℤ◌, ◌≤ℤ◌, replicate, slice_index, int_lt}
use Rattle.std.specs.List.{sum, sum_by, AllByRecursion}
use Rattle.std.specs.Ordering.{int_eq}
use Rattle.std.proofs.lemmas.Int.{ints}
use Rattle.std.proofs.lemmas.List.{get_or-map, length-drop, length-replicate, length-take, take-append-drop}
use Rattle.std.proofs.lemmas.List.Elements.{filter-append, recursion_from_All}
use Rattle.std.proofs.lemmas.List.FromFn.{get_or-range_with_len, length-range_with_len}
use Rattle.std.proofs.lemmas.List.Sums.{sum_by-cons, sum_by-append}
use Rattle.networks.specs.declared.verdicts.Judge.{Judge}
use Rattle.weights.specs.Grouped.{columns_of, fits, minus}
use Rattle.weights.specs.Labellings.{counts_of, labels}
use Rattle.weights.proofs.Filters.{all_append, all_replicate, all_weaker}
use Rattle.weights.proofs.Counted.{count_of}
use Rattle.weights.proofs.Sized.{counts_of-append, length-counts_of, plus-left}
use Rattle.weights.proofs.Sums.{sum_by-plus, sum_by-same, sum_by-same_where}
use Rattle.midranks.specs.Ties.{IsAscending}
use Rattle.midranks.specs.declared.ties.Tie.{Tie}
use Rattle.midranks.proofs.TieLemmas.{test-less, test-not_less, test-other, test-same}
use Rattle.sample_reader.specs.PooledSample.{paired_subjects}
use Rattle.sample_reader.specs.declared.subjects.Subject.{Subject}
use Rattle.sample_reader.proofs.PooledLemmas.{paired-block, paired-all}
use Rattle.later_scores.specs.LaterSums.{subjects}
use Rattle.label_network.proofs.Endings.{labelling_value, partial_after}
use Rattle.room_network.specs.Numbers.{so_far}
use Rattle.label_network.proofs.Narrowing.{minus-within}
use Rattle.ordered_samples.specs.declared.used_pairs.UsedPair.{UsedPair}
use Rattle.ordered_samples.specs.PairCounts.{column_points, pairs_meaning, placed}
use Rattle.ordered_samples.specs.Umbrella.{group_of, pair_points, points}
use Rattle.ordered_samples.specs.UmbrellaSteps.{ArePairs, IsPair, points_from}
use Rattle.label_network.proofs.Rearranging.{get-minus}
use Rattle.label_network.proofs.Rows.{get-within}

-- the pairs of a subject of group l among some and one of group h among others
abbrev pub across : ℕ → ℕ → List Subject → List Subject → ℕ
across l h xs ys = sum_by (λ a. sum_by (λ b. points a.value b.value) (group_of h ys)) (group_of l xs)

-- ---- where each pair adds the same

sum-alike : {X : Type 0} (f : X → ℕ) (n : ℕ) (xs : List X) → AllByRecursion (λ x. f x ≡ n) xs → sum_by f xs ≡ n * length xs
sum-alike f n [] a = omega arith
sum-alike f n (x ∷ xs) a = omega (arith, sum_by-cons f x xs, a.0, sum-alike f n xs a.1, more n (length xs))
  where
    more : (n m : ℕ) → n * suc m ≡ n + n * m
    more n m = omega arith

all-kept : (P : Subject → Type 0) (i : ℕ) (xs : List Subject) → AllByRecursion P xs → AllByRecursion P (group_of i xs)
all-kept P i [] a = tt
all-kept P i (x ∷ xs) a = by (nat_eq x.label i) (all-kept P i xs a.1)
  where
    by : (b : Bool) → AllByRecursion P (group_of i xs) → AllByRecursion P (cond b (x ∷ group_of i xs) (group_of i xs))
    by true rest = (a.0, rest)
    by false rest = rest

across-alike : (n : ℕ) (P Q : ℤ → Type 0) → ((v w : ℤ) → P v → Q w → points v w ≡ n) → (l h : ℕ) (xs ys : List Subject) → AllByRecursion (λ s. P s.value) xs → AllByRecursion (λ s. Q s.value) ys
    → across l h xs ys ≡ n * length (group_of h ys) * length (group_of l xs)
across-alike n P Q each l h xs ys one other =
    sum-alike (λ (a : Subject). sum_by (λ (b : Subject). points a.value b.value) (group_of h ys)) (n * length (group_of h ys)) (group_of l xs)
    (all_weaker (λ (a : Subject). P a.value) (λ (a : Subject). sum_by (λ (b : Subject). points a.value b.value) (group_of h ys) ≡ n * length (group_of h ys)) inner (group_of l xs) (all-kept (λ s. P s.value) l xs one))
  where
    inner : (a : Subject) → P a.value → sum_by (λ (b : Subject). points a.value b.value) (group_of h ys) ≡ n * length (group_of h ys)
    inner a p =
        sum-alike (λ (b : Subject). points a.value b.value) n (group_of h ys)
        (all_weaker (λ (b : Subject). Q b.value) (λ (b : Subject). points a.value b.value ≡ n) (λ b q. each a.value b.value p q) (group_of h ys) (all-kept (λ s. Q s.value) h ys other))

-- ---- subjects in two parts

across-parts : (l h : ℕ) (xs ys : List Subject) → across l h (xs ++ ys) (xs ++ ys) ≡ (across l h xs xs + across l h xs ys) + (across l h ys xs + across l h ys ys)
across-parts l h xs ys =
    ap (λ zs. sum_by (λ (a : Subject). sum_by (λ (b : Subject). points a.value b.value) (group_of h (xs ++ ys))) zs) (filter-append (λ (s : Subject). nat_eq s.label l) xs ys)
    ∙ sum_by-append (λ (a : Subject). sum_by (λ (b : Subject). points a.value b.value) (group_of h (xs ++ ys))) (group_of l xs) (group_of l ys)
    ∙ both (split (group_of l xs)) (split (group_of l ys))
  where
    both : {a b c d : ℕ} → a ≡ c → b ≡ d → a + b ≡ c + d
    both e f = omega (arith, e, f)

    split : (zs : List Subject) → sum_by (λ (a : Subject). sum_by (λ (b : Subject). points a.value b.value) (group_of h (xs ++ ys))) zs ≡ sum_by (λ (a : Subject). sum_by (λ (b : Subject). points a.value b.value) (group_of h xs)) zs + sum_by (λ (a : Subject). sum_by (λ (b : Subject). points a.value b.value) (group_of h ys)) zs
    split zs =
        sum_by-same _ (λ (a : Subject). sum_by (λ (b : Subject). points a.value b.value) (group_of h xs) + sum_by (λ (b : Subject). points a.value b.value) (group_of h ys))
        (λ a. ap (sum_by (λ (b : Subject). points a.value b.value)) (filter-append (λ (s : Subject). nat_eq s.label h) xs ys) ∙ sum_by-append (λ (b : Subject). points a.value b.value) (group_of h xs) (group_of h ys)) zs
        ∙ sum_by-plus (λ (a : Subject). sum_by (λ (b : Subject). points a.value b.value) (group_of h xs)) (λ (a : Subject). sum_by (λ (b : Subject). points a.value b.value) (group_of h ys)) zs

group-length : (i : ℕ) (values : List ℤ) (xs : List ℕ) → length xs ≡ length values → length (group_of i (paired_subjects values xs)) ≡ count_of i xs
unfolding paired_subjects
group-length i [] [] e = refl
group-length i [] (x ∷ xs) e = absurd (omega (arith, e))
group-length i (v ∷ values) [] e = absurd (omega (arith, e))
group-length i (v ∷ values) (x ∷ xs) e = by (nat_eq x i) (group-length i values xs (omega (arith, e))) (sum_by-cons (λ l. cond (nat_eq l i) 1 0) x xs)
  where
    by : (b : Bool) → length (group_of i (paired_subjects values xs)) ≡ count_of i xs → count_of i (x ∷ xs) ≡ cond b 1 0 + count_of i xs → length (cond b (record { value = v; label = x } ∷ group_of i (paired_subjects values xs)) (group_of i (paired_subjects values xs))) ≡ count_of i (x ∷ xs)
    by true rest sum = omega (arith, rest, sum)
    by false rest sum = omega (arith, rest, sum)

-- the values of ascending groups, each as often as it occurs
abbrev pub values_of_ties : List Tie → List ℤ
values_of_ties ts = subjects (map (λ t. t.value) ts) (map (λ t. t.count) ts)

all-later : (P : ℤ → Type 0) (ts : List Tie) → AllByRecursion (λ t. P t.value) ts → AllByRecursion P (subjects (map (λ t. t.value) ts) (map (λ t. t.count) ts))
all-later P [] a = tt
all-later P (t ∷ ts) a = all_append P (replicate t.count t.value) (subjects (map (λ t. t.value) ts) (map (λ t. t.count) ts)) (all_replicate P t.count t.value a.0) (all-later P ts a.1)

-- ---- the points of two values

by-tests : (v w : ℤ) (c : Bool) → int_lt v w ≡ false → int_eq v w ≡ c → points v w ≡ cond c 1 0
by-tests v w c e f = ap (λ b. cond b 2 (cond (int_eq v w) 1 0)) e ∙ ap (λ b. cond b 1 0) f

tied-points : (v w : ℤ) → v ≡ w → points v w ≡ 1
tied-points v w e = by-tests v w true (test-not_less v w (turned v w e)) (test-same v w e)
  where
    turned : (a b : ℤ) → a ≡ b → b ≤ℤ a
    turned a b h = omega (arith, ints, h)

risen-points : (v w : ℤ) → v <ℤ w → points v w ≡ 2
risen-points v w h = rw (test-less v w h) refl

fallen-points : (v w : ℤ) → w <ℤ v → points v w ≡ 0
fallen-points v w h = by-tests v w false (test-not_less v w (weaker v w h)) (test-other v w (apart v w h))
  where
    weaker : (a b : ℤ) → b <ℤ a → b ≤ℤ a
    weaker a b h = omega (arith, ints, h)

    apart : (a b : ℤ) → b <ℤ a → a ≢ b
    apart a b h e = omega (arith, ints, h, e)

-- ---- from one column to the next

length-values : (ts : List Tie) → length (subjects (map (λ t. t.value) ts) (map (λ t. t.count) ts)) ≡ sum (map (λ t. t.count) ts)
length-values [] = refl
length-values (t ∷ ts) = omega (arith, length-append (replicate t.count t.value) (subjects (map (λ t. t.value) ts) (map (λ t. t.count) ts)), length-replicate t.count t.value, length-values ts, sum_by-cons (λ v. v) t.count (map (λ t. t.count) ts))

module _ (t : Tie) (ts : List Tie) (up : IsAscending (t ∷ ts)) (xs : List ℕ) (long : length xs ≡ sum (map (λ t. t.count) (t ∷ ts))) where
  abbrev pub rest : List ℤ
  rest = subjects (map (λ t. t.value) ts) (map (λ t. t.count) ts)

  enough : t.count + sum (map (λ t. t.count) ts) ≡ length xs
  enough = omega (arith, long, sum_by-cons (λ v. v) t.count (map (λ t. t.count) ts))

  pub rest-long : length (drop t.count xs) ≡ sum (map (λ t. t.count) ts)
  rest-long = omega (arith, enough, length-drop t.count xs)

  here-long : length (take t.count xs) ≡ length (replicate t.count t.value)
  here-long = omega (arith, enough, length-take t.count xs, length-replicate t.count t.value)

  pub column-pairs : (l h : ℕ) → across l h (paired_subjects (replicate t.count t.value ++ rest) xs) (paired_subjects (replicate t.count t.value ++ rest) xs)
      ≡ (count_of l (take t.count xs) * count_of h (take t.count xs) + 2 * (count_of l (take t.count xs) * count_of h (drop t.count xs))) + across l h (paired_subjects rest (drop t.count xs)) (paired_subjects rest (drop t.count xs))
  column-pairs l h =
      let here = paired_subjects (replicate t.count t.value) (take t.count xs) in
      let there = paired_subjects rest (drop t.count xs) in
      let tied = across-alike 1 (λ v. v ≡ t.value) (λ v. v ≡ t.value) (λ v w p q. tied-points v w (p ∙ sym q)) l h here here (paired-all (λ v. v ≡ t.value) (replicate t.count t.value) (take t.count xs) (all_replicate (λ v. v ≡ t.value) t.count t.value refl)) (paired-all (λ v. v ≡ t.value) (replicate t.count t.value) (take t.count xs) (all_replicate (λ v. v ≡ t.value) t.count t.value refl)) in
      let risen = across-alike 2 (λ v. v ≡ t.value) (λ w. t.value <ℤ w) (λ v w p q. risen-points v w (rw p q)) l h here there (paired-all (λ v. v ≡ t.value) (replicate t.count t.value) (take t.count xs) (all_replicate (λ v. v ≡ t.value) t.count t.value refl)) (paired-all (λ w. t.value <ℤ w) rest (drop t.count xs) (all-later (λ w. t.value <ℤ w) ts up.0)) in
      let fallen = across-alike 0 (λ w. t.value <ℤ w) (λ v. v ≡ t.value) (λ v w p q. fallen-points v w (rw q p)) l h there here (paired-all (λ w. t.value <ℤ w) rest (drop t.count xs) (all-later (λ w. t.value <ℤ w) ts up.0)) (paired-all (λ v. v ≡ t.value) (replicate t.count t.value) (take t.count xs) (all_replicate (λ v. v ≡ t.value) t.count t.value refl)) in
      let long_there : length (drop t.count xs) ≡ length rest = rest-long ∙ sym (length-values ts) in
      ap (λ ss. across l h ss ss) (paired-block t.count t.value rest xs (omega (arith, enough)))
      ∙ across-parts l h here there
      ∙ gathered _ _ _ (across l h there there) _ _ _ (length (group_of l here)) (length (group_of h here)) (length (group_of h there)) (length (group_of l there)) (group-length l (replicate t.count t.value) (take t.count xs) here-long) (group-length h (replicate t.count t.value) (take t.count xs) here-long) (group-length h rest (drop t.count xs) long_there) tied risen fallen
    where
      gathered : (a b c d xl xh bh gl gh kh kl : ℕ) → gl ≡ xl → gh ≡ xh → kh ≡ bh → a ≡ 1 * gh * gl → b ≡ 2 * kh * gl → c ≡ 0 * gh * kl → (a + b) + (c + d) ≡ (xl * xh + 2 * (xl * bh)) + d
      gathered a b c d xl xh bh gl gh kh kl e f g p q r = rw (p, q, r, e, f, g) (omega arith)

-- ---- counts that are placed and that remain

pub counts-left : (k c : ℕ) (xs r : List ℕ) → counts_of k xs ≡ r → (fits (counts_of k (take c xs)) r ≡ true) × (minus r (counts_of k (take c xs)) ≡ counts_of k (drop c xs))
counts-left k c xs r e =
    plus-left (counts_of k (take c xs)) (counts_of k (drop c xs)) r (sym (counts_of-append k (take c xs) (drop c xs)) ∙ ap (counts_of k) (take-append-drop c xs) ∙ e) (length-counts_of k (take c xs) ∙ sym (length-counts_of k (drop c xs)))

pub count-at : (k i : ℕ) (xs : List ℕ) → i < k → get_or (counts_of k xs) i 0 ≡ count_of i xs
count-at k i xs h =
    get_or-map (λ i. count_of i xs) (labels k) i 0 0 (omega (arith, h, length-range_with_len 0 k)) ∙ ap (λ j. count_of j xs) (get_or-range_with_len 0 k i 0 h ∙ zero-add i)

-- ---- all columns

-- of one pair of groups, with so many placed and what remains
abbrev pub term : List ℕ → List ℕ → List Tie → List ℕ → UsedPair → ℕ
term rows r ts xs q = 2 * (placed rows r q.lesser * slice_index r q.greater) + pair_points (paired_subjects (values_of_ties ts) xs) q

empty : (q : UsedPair) → pair_points (paired_subjects [] []) q ≡ 0
unfolding paired_subjects
empty q = refl

module _ (qs : List UsedPair) (rows : List ℕ) (pairs : ArePairs (length rows) qs) where
  one-pair : (t : Tie) (ts : List Tie) (r xs : List ℕ) → IsAscending (t ∷ ts) → length xs ≡ sum (map (λ t. t.count) (t ∷ ts)) → counts_of (length rows) xs ≡ r → fits r rows ≡ true → (q : UsedPair) → IsPair (length rows) q
      → (2 * (placed rows r q.lesser * slice_index (counts_of (length rows) (take t.count xs)) q.greater) + slice_index (counts_of (length rows) (take t.count xs)) q.lesser * slice_index (counts_of (length rows) (take t.count xs)) q.greater)
      + term rows (minus r (counts_of (length rows) (take t.count xs))) ts (drop t.count xs) q ≡ term rows r (t ∷ ts) xs q
  one-pair t ts r xs up long e f q p =
      let x : List ℕ = counts_of (length rows) (take t.count xs) in
      let part = counts-left (length rows) t.count xs r e in
      let later : get_or (minus r x) q.greater 0 ≡ count_of q.greater (drop t.count xs) = ap (λ ns. get_or ns q.greater 0) part.1 ∙ count-at (length rows) q.greater (drop t.count xs) p.1 in
      let all : get_or r q.greater 0 ≡ get_or x q.greater 0 + get_or (minus r x) q.greater 0 = omega (arith, get-minus r x q.greater part.0, get-within r x q.greater part.0) in
      let more : placed rows (minus r x) q.lesser ≡ placed rows r q.lesser + get_or x q.lesser 0 = omega (arith, get-minus r x q.lesser part.0, get-within r x q.lesser part.0, get-within rows r q.lesser f) in
      joined (placed rows r q.lesser) (get_or x q.lesser 0) (get_or x q.greater 0) (get_or (minus r x) q.greater 0) (get_or r q.greater 0) (placed rows (minus r x) q.lesser) (pair_points (paired_subjects (values_of_ties ts) (drop t.count xs)) q) (pair_points (paired_subjects (values_of_ties (t ∷ ts)) xs) q) all more
      (column-pairs t ts up xs long q.lesser q.greater ∙ rw ((count-at (length rows) q.lesser (take t.count xs) p.0), (count-at (length rows) q.greater (take t.count xs) p.1), later) refl)
    where
      joined : (p xl xh bh rh pm d w : ℕ) → rh ≡ xh + bh → pm ≡ p + xl → w ≡ (xl * xh + 2 * (xl * bh)) + d → (2 * (p * xh) + xl * xh) + (2 * (pm * bh) + d) ≡ 2 * (p * rh) + w
      joined p xl xh bh rh pm d w e f g = rw (e, f, g) (omega arith)

  pub points-are : (ts : List Tie) (r xs : List ℕ) → IsAscending ts → length xs ≡ sum (map (λ t. t.count) ts) → counts_of (length rows) xs ≡ r → fits r rows ≡ true → points_from qs rows r (map (λ t. t.count) ts) xs ≡ sum_by (term rows r ts xs) qs
  points-are [] r [] up long e f = sym (sum-alike (term rows r [] []) 0 qs (none qs) ∙ (omega arith))
    where
      nothing : (k i : ℕ) → get_or (counts_of k []) i 0 ≡ 0
      nothing k i = zeros (labels k) i
        where
          zeros : (is : List ℕ) (i : ℕ) → get_or (map (λ i. count_of i []) is) i 0 ≡ 0
          zeros [] i = refl
          zeros (j ∷ is) zero = refl
          zeros (j ∷ is) (suc i) = zeros is i

      none : (qs : List UsedPair) → AllByRecursion (λ q. term rows r [] [] q ≡ 0) qs
      none [] = tt
      none (q ∷ qs) = (gone (placed rows r q.lesser) (slice_index r q.greater) _ (ap (λ ns. get_or ns q.greater 0) (sym e) ∙ nothing (length rows) q.greater) (empty q), none qs)
        where
          gone : (p s d : ℕ) → s ≡ 0 → d ≡ 0 → 2 * (p * s) + d ≡ 0
          gone p s d a b = rw (a, b) (omega arith)
  points-are [] r (x ∷ xs) up long e f = absurd (omega (arith, long))
  points-are (t ∷ ts) r xs up long e f =
      let x : List ℕ = counts_of (length rows) (take t.count xs) in
      let part = counts-left (length rows) t.count xs r e in
      ap (λ n. column_points qs rows r x + n) (points-are ts (minus r x) (drop t.count xs) up.1 (rest-long t ts up xs long) (sym part.1) (minus-within r x rows part.0 f))
      ∙ sym (sum_by-plus (λ (q : UsedPair). 2 * (placed rows r q.lesser * slice_index x q.greater) + slice_index x q.lesser * slice_index x q.greater) (term rows (minus r x) ts (drop t.count xs)) qs)
      ∙ sum_by-same_where (IsPair (length rows)) _ _ (one-pair t ts r xs up long e f) qs (recursion_from_All (IsPair (length rows)) qs pairs.each)

-- ---- the network

module _ (qs : List UsedPair) (rows columns : List ℕ) (judge : Judge) where
  value-from : (cs : List ℕ) (g : ℕ) (r : List ℕ) (p : List ℤ) (xs : List ℕ)
      → so_far (partial_after (pairs_meaning qs rows columns judge) g r p (columns_of (length rows) cs xs)) ≡ so_far p +ℤ pos (points_from qs rows r cs xs)
  value-from [] g r p xs = plus-zero (so_far p)
    where
      plus-zero : (s : ℤ) → s ≡ s +ℤ pos 0
      plus-zero s = omega (arith, ints)
  value-from (c ∷ cs) g r p xs =
      let x : List ℕ = counts_of (length rows) (take c xs) in
      value-from cs (g + 1) (minus r x) ((so_far p +ℤ pos (column_points qs rows r x)) ∷ []) (drop c xs)
      ∙ moved (so_far p) (column_points qs rows r x) (points_from qs rows (minus r x) cs (drop c xs))
    where
      moved : (s : ℤ) (a b : ℕ) → (s +ℤ pos a) +ℤ pos b ≡ s +ℤ pos (a + b)
      moved s a b = omega (arith, ints)

  pub value-is : (xs : List ℕ) → labelling_value (pairs_meaning qs rows columns judge) xs ≡ pos (points_from qs rows rows columns xs)
  value-is xs = value-from columns 0 rows (pos 0 ∷ []) xs ∙ zero-plus (points_from qs rows rows columns xs)
    where
      zero-plus : (n : ℕ) → pos 0 +ℤ pos n ≡ pos n
      zero-plus n = omega (arith, ints)
