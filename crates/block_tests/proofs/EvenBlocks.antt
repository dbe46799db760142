-- A block that is the same from both ends has the same arrangements from either end.
use Rattle.std.proofs.Common.{◌≡◌, ◌≢◌, ℕ, zero, suc, ◌+◌, ◌-◌, ◌*◌, ◌<◌, ◌≤◌, ◌⊎◌, inl, inr, List, [], ◌∷◌, map, length, get_or, Bool, true, false, cond, ◌&&◌, refl, sym, ◌∙◌, ap, subst, arith, nat_eq, eq-eqb, ne_eqb}
use Rattle.std.specs.Prelude.{nat_lt, reverse, slice_index}
use Rattle.std.specs.List.{sum_by, sum, AllByRecursion, list_all, range_with_len}
use Rattle.std.specs.Cmp.Lexicographic.{same_text}
use Rattle.std.proofs.lemmas.Bool.{and_parts, cases_lt, eqb-true, le-ltb, lt-ltb}
use Rattle.std.proofs.lemmas.Bool.Decides.{eqb_tells}
use Rattle.std.proofs.lemmas.List.{get_or-reverse, get_or_default, length-map, length-reverse}
use Rattle.std.proofs.lemmas.List.Folds.{list_all_at}
use Rattle.std.proofs.lemmas.List.Sums.{list_all-from_AllPass, sum_by-cons}
use Rattle.weights.specs.Labellings.{counts_of, has_counts, labellings, labels, lists_over}
use Rattle.weights.proofs.Counted.{SameCounts, all_counted, all_from_SameCounts, count_of, holds_where_counted, labelling_from_SameCounts}
use Rattle.weights.proofs.Members.{IsLabelling, IsOver, lists_over-each, range-below, same_refl}
use Rattle.weights.proofs.Ranges.{range-one}
use Rattle.weights.proofs.Sums.{sum_by-filter, sum_by-fronts, sum_by-plus, sum_by-same, sum_by-same_where, sum_by-swap, sum_by-zero}
use Rattle.enumerate.proofs.Steps.{count_of-reverse}
use Rattle.transposed_tables.proofs.Bijection.{alike}
use Rattle.rank_assignments.specs.Upright.{reflected}
use Rattle.rank_assignments.proofs.UprightSums.{sum-reflected}
use Rattle.block_tests.specs.BlockNetworks.{first_arrangement}
use Rattle.block_tests.specs.BlockTests.{added}
use Rattle.block_tests.specs.EvenBlocks.{end_sum, is_even, pair_sums}
use Rattle.block_tests.proofs.Arranged.{sum_by-first}
use Rattle.block_tests.proofs.TreatmentSums.{length-added}

-- ---- a sum over labels

weighed-count : (x i : ℕ) (xs : List ℕ) → i * count_of i (x ∷ xs) ≡ cond (nat_eq x i) i 0 + i * count_of i xs
weighed-count x i xs = ap (λ n. i * n) (sum_by-cons (λ l. cond (nat_eq l i) 1 0) x xs) ∙ by (nat_eq x i) (count_of i xs)
  where
    by : (b : Bool) (c : ℕ) → i * (cond b 1 0 + c) ≡ cond b i 0 + i * c
    by true c = grind arith
    by false c = grind arith

-- each label as often as it occurs
sum-counted : (m : ℕ) (xs : List ℕ) → AllByRecursion (λ l. l < m) xs → sum xs ≡ sum_by (λ i. i * count_of i xs) (range_with_len 0 m)
sum-counted m [] a = sym (sum_by-same (λ i. i * count_of i []) (λ i. 0) (λ i. none i) (range_with_len 0 m) ∙ sum_by-zero (range_with_len 0 m))
  where
    none : (i : ℕ) → i * 0 ≡ 0
    none i = omega arith
sum-counted m (x ∷ xs) a =
    let all : List ℕ = range_with_len 0 m in
    let here : sum_by (λ i. cond (nat_eq x i) i 0) all ≡ x = range-one (λ i. i) x 0 m (omega arith) (omega (arith, a.0)) in
    let parts : sum_by (λ i. i * count_of i (x ∷ xs)) all ≡ sum_by (λ i. cond (nat_eq x i) i 0) all + sum_by (λ i. i * count_of i xs) all =
    sum_by-same (λ i. i * count_of i (x ∷ xs)) (λ i. cond (nat_eq x i) i 0 + i * count_of i xs) (λ i. weighed-count x i xs) all
    ∙ sum_by-plus (λ i. cond (nat_eq x i) i 0) (λ i. i * count_of i xs) all in
    omega (arith, sum_by-cons (λ v. v) x xs, sum-counted m xs a.1, here, parts)

-- ---- a label and its opposite

-- a label that has an opposite below n becomes this
abbrev pub opposite_label : ℕ → ℕ → ℕ → ℕ
opposite_label n end l = cond (nat_lt l n && (nat_lt l (end + 1) && nat_lt (end - l) n)) (end - l) l

pub record HasOpposite (n end l : ℕ) : Type 0 where
  pub below : l < n
  pub within : l ≤ end
  pub back : end - l < n

opposite-cases : (n end l : ℕ) → (HasOpposite n end l × (opposite_label n end l ≡ end - l)) ⊎ ((HasOpposite n end l → ⊥) × (opposite_label n end l ≡ l))
opposite-cases n end l = elim (cases_lt l n) [
  | inl a ↦ elim (cases_lt l (end + 1)) [
    | inl b ↦ elim (cases_lt (end - l) n) [
      | inl c ↦ inl (record { below = a; within = omega (arith, b); back = c }, rw (lt-ltb l n a, lt-ltb l (end + 1) b, lt-ltb (end - l) n c) refl)
      | inr c ↦ inr (λ h. omega (arith, h.back, c), rw (lt-ltb l n a, lt-ltb l (end + 1) b, le-ltb (end - l) n c) refl)
    ]
    | inr b ↦ inr (λ h. omega (arith, h.within, b), rw (lt-ltb l n a, le-ltb l (end + 1) b) refl)
  ]
  | inr a ↦ inr (λ h. omega (arith, h.below, a), rw (le-ltb l n a) refl)
]

module _ (n end : ℕ) where
  abbrev opposite : ℕ → ℕ
  opposite l = opposite_label n end l

  opposite-twice : (l : ℕ) → opposite (opposite l) ≡ l
  opposite-twice l = elim (opposite-cases n end l) [
    | inl h ↦
        (let back : end - (end - l) ≡ l = omega (arith, h.0.within) in
        ap opposite h.1 ∙ (elim (opposite-cases n end (end - l)) [
          | inl g ↦ g.1 ∙ back
          | inr g ↦ absurd (g.0 (record { below = h.0.back; within = omega arith; back = omega (arith, back, h.0.below) }))
        ]))
    | inr h ↦ ap opposite h.1 ∙ h.1
  ]

  opposite-below : (l : ℕ) → l < n → opposite l < n
  opposite-below l b = elim (opposite-cases n end l) [
    | inl h ↦ omega (arith, h.1, h.0.back)
    | inr h ↦ omega (arith, h.1, b)
  ]

  opposite-is : (l i : ℕ) → nat_eq (opposite l) i ≡ nat_eq l (opposite i)
  opposite-is l i = elim (eqb_tells (opposite l) i) [
    | inl e ↦ e.0 ∙ sym (eq-eqb l (opposite i) (sym (opposite-twice l) ∙ ap opposite e.1))
    | inr e ↦ e.0 ∙ sym (ne_eqb l (opposite i) (λ same. e.1 (ap opposite same ∙ opposite-twice i)))
  ]

  opposite-swapped : (l i : ℕ) → nat_eq (opposite l) i ≡ nat_eq (opposite i) l
  opposite-swapped l i = elim (eqb_tells (opposite l) i) [
    | inl e ↦ e.0 ∙ sym (eq-eqb (opposite i) l (ap opposite (sym e.1) ∙ opposite-twice l))
    | inr e ↦ e.0 ∙ sym (ne_eqb (opposite i) l (λ same. e.1 (ap opposite (sym same) ∙ opposite-twice i)))
  ]

  opposites-back : (xs : List ℕ) → map opposite (map opposite xs) ≡ xs
  opposites-back [] = refl
  opposites-back (x ∷ xs) = ap (λ l. l ∷ map opposite (map opposite xs)) (opposite-twice x) ∙ ap (λ ls. x ∷ ls) (opposites-back xs)

  opposites-below : (xs : List ℕ) → AllByRecursion (λ l. l < n) xs → AllByRecursion (λ l. l < n) (map opposite xs)
  opposites-below [] a = tt
  opposites-below (x ∷ xs) a = (opposite-below x a.0, opposites-below xs a.1)

  count-opposite : (i : ℕ) (xs : List ℕ) → count_of i (map opposite xs) ≡ count_of (opposite i) xs
  count-opposite i [] = refl
  count-opposite i (x ∷ xs) =
      let here : ◌≡◌ {A = ℕ} (cond (nat_eq (opposite x) i) 1 0) (cond (nat_eq x (opposite i)) 1 0) = ap (λ b. cond b 1 0) (opposite-is x i) in
      omega (arith, sum_by-cons (λ l. cond (nat_eq l i) 1 0) (opposite x) (map opposite xs), sum_by-cons (λ l. cond (nat_eq l (opposite i)) 1 0) x xs, here, count-opposite i xs)

  -- over all labels, and over all lists of them
  range-opposite : (g : ℕ → ℕ) → sum_by g (labels n) ≡ sum_by (λ l. g (opposite l)) (labels n)
  range-opposite g = sym (
      sum_by-same_where (λ l. l < 0 + n) (λ l. g (opposite l)) (λ l. sum_by (λ b. cond (nat_eq (opposite l) b) (g b) 0) (labels n))
      (λ l h. sym (range-one g (opposite l) 0 n (omega arith) (omega (arith, opposite-below l (omega (arith, h)))))) (labels n) (range-below 0 n)
      ∙ sum_by-swap (λ l b. cond (nat_eq (opposite l) b) (g b) 0) (labels n) (labels n)
      ∙ sum_by-same_where (λ b. b < 0 + n) (λ b. sum_by (λ l. cond (nat_eq (opposite l) b) (g b) 0) (labels n)) g
      (λ b h.
      sum_by-same (λ l. cond (nat_eq (opposite l) b) (g b) 0) (λ l. cond (nat_eq (opposite b) l) (g b) 0) (λ l. ap (λ t. cond t (g b) 0) (opposite-swapped l b)) (labels n)
      ∙ range-one (λ l. g b) (opposite b) 0 n (omega arith) (omega (arith, opposite-below b (omega (arith, h))))) (labels n) (range-below 0 n))

  lists-opposite : (m : ℕ) (h : List ℕ → ℕ) → sum_by h (lists_over m n) ≡ sum_by (λ xs. h (map opposite xs)) (lists_over m n)
  lists-opposite zero h = refl
  lists-opposite (suc m) h =
      sum_by-fronts h (λ l. l) (λ l. lists_over m n) (labels n)
      ∙ sum_by-same (λ l. sum_by (λ xs. h (l ∷ xs)) (lists_over m n)) (λ l. sum_by (λ xs. h (l ∷ map opposite xs)) (lists_over m n)) (λ l. lists-opposite m (λ xs. h (l ∷ xs))) (labels n)
      ∙ range-opposite (λ l. sum_by (λ xs. h (l ∷ map opposite xs)) (lists_over m n))
      ∙ sym (sum_by-fronts (λ xs. h (map opposite xs)) (λ l. l) (λ l. lists_over m n) (labels n))

-- ---- pairs that add to the same

pub added-at : (xs ys : List ℕ) (i : ℕ) → i < length xs → length xs ≡ length ys → get_or (added xs ys) i 0 ≡ get_or xs i 0 + get_or ys i 0
added-at [] ys i h e = absurd (omega (arith, h))
added-at (x ∷ xs) [] i h e = absurd (omega (arith, e))
added-at (x ∷ xs) (y ∷ ys) zero h e = refl
added-at (x ∷ xs) (y ∷ ys) (suc i) h e = added-at xs ys i (omega (arith, h)) (omega (arith, e))

pub length-pairs : (xs : List ℕ) → length (pair_sums xs) ≡ length xs
length-pairs xs = length-added (length xs) xs (reverse xs) (omega arith) (length-reverse xs)

pub pair-at : (xs : List ℕ) (i : ℕ) → i < length xs → slice_index (pair_sums xs) i ≡ get_or xs i 0 + get_or xs (length xs - 1 - i) 0
pair-at xs i h = added-at xs (reverse xs) i h (sym (length-reverse xs)) ∙ ap (λ n. get_or xs i 0 + n) (get_or-reverse xs i 0 h)

-- whether all pairs add to what the first does
pub all-paired : (xs : List ℕ) → ((i : ℕ) → i < length xs → slice_index (pair_sums xs) i ≡ slice_index (pair_sums xs) 0) → list_all (nat_eq (slice_index (pair_sums xs) 0)) (pair_sums xs) ≡ true
all-paired xs each =
    list_all-from_AllPass (nat_eq (slice_index (pair_sums xs) 0)) (pair_sums xs)
    (λ i d h. eq-eqb (slice_index (pair_sums xs) 0) (get_or (pair_sums xs) i d) (sym (get_or_default (pair_sums xs) i d 0 h ∙ each i (omega (arith, h, length-pairs xs)))))

pub not-paired : (xs : List ℕ) (i : ℕ) → i < length xs → slice_index (pair_sums xs) i ≢ slice_index (pair_sums xs) 0 → list_all (nat_eq (slice_index (pair_sums xs) 0)) (pair_sums xs) ≡ false
not-paired xs i h other =
    list_all_at (nat_eq (slice_index (pair_sums xs) 0)) (pair_sums xs) i 0 (omega (arith, h, length-pairs xs))
    (ne_eqb (slice_index (pair_sums xs) 0) (slice_index (pair_sums xs) i) (λ same. other (sym same)))

-- where one list has what the other lacks to a sum
facing : (e : ℕ) (xs ys : List ℕ) → length xs ≡ length ys → list_all (nat_eq e) (added xs ys) ≡ true → (ys ≡ reflected e xs) × AllByRecursion (λ x. x ≤ e) xs
facing e [] [] l t = (refl, tt)
facing e [] (y ∷ ys) l t = absurd (omega (arith, l))
facing e (x ∷ xs) [] l t = absurd (omega (arith, l))
facing e (x ∷ xs) (y ∷ ys) l t =
    let both = and_parts (nat_eq e (x + y)) (list_all (nat_eq e) (added xs ys)) t in
    let here : e ≡ x + y = eqb-true e (x + y) both.0 in
    let later = facing e xs ys (omega (arith, l)) both.1 in
    let lacking : y ≡ e - x = omega (arith, here) in
    (ap (λ z. z ∷ ys) lacking ∙ ap (λ zs. (e - x) ∷ zs) later.0, (omega (arith, here), later.1))

lacks : (e x i : ℕ) → x ≤ e → i ≤ e → nat_eq (e - x) i ≡ nat_eq x (e - i)
lacks e x i h l = elim (eqb_tells (e - x) i) [
  | inl same ↦ same.0 ∙ sym (eq-eqb x (e - i) (omega (arith, h, same.1)))
  | inr other ↦ other.0 ∙ sym (ne_eqb x (e - i) (λ same. other.1 (omega (arith, l, same))))
]

count-reflected : (e i : ℕ) (xs : List ℕ) → i ≤ e → AllByRecursion (λ x. x ≤ e) xs → count_of i (reflected e xs) ≡ count_of (e - i) xs
count-reflected e i [] h a = refl
count-reflected e i (x ∷ xs) h a =
    let here : ◌≡◌ {A = ℕ} (cond (nat_eq (e - x) i) 1 0) (cond (nat_eq x (e - i)) 1 0) = ap (λ b. cond b 1 0) (lacks e x i a.0 h) in
    omega (arith, sum_by-cons (λ l. cond (nat_eq l i) 1 0) (e - x) (reflected e xs), sum_by-cons (λ l. cond (nat_eq l (e - i)) 1 0) x xs, here, count-reflected e i xs h a.1)

-- ---- even blocks

abbrev pub IsEven : List ℕ → Type 0
IsEven counts = is_even counts ≡ true

pub each-even : (blocks : List (List ℕ)) → list_all is_even blocks ≡ true → AllByRecursion IsEven blocks
each-even [] t = tt
each-even (counts ∷ blocks) t = (let both = and_parts (is_even counts) (list_all is_even blocks) t in (both.0, each-even blocks both.1))

module _ (counts : List ℕ) (even : IsEven counts) where
  abbrev many : ℕ
  many = length counts

  abbrev end : ℕ
  end = end_sum counts

  abbrev first : List ℕ
  first = first_arrangement counts

  abbrev reflect_label : ℕ → ℕ
  reflect_label l = opposite_label (length counts) (end_sum counts) l

  first-faces : (reverse first ≡ reflected end first) × AllByRecursion (λ l. l ≤ end) first
  first-faces = facing end first (reverse first) (sym (length-reverse first)) even

  as-first : (xs : List ℕ) → IsLabelling counts xs → SameCounts xs first
  as-first xs l i = sum_by-first (λ v. cond (nat_eq v i) 1 0) counts xs l

  pub cells-within : (xs : List ℕ) → IsLabelling counts xs → AllByRecursion (λ l. l ≤ end_sum counts) xs
  cells-within xs l = all_from_SameCounts (λ v. v ≤ end) first xs (λ i. sym (as-first xs l i)) first-faces.1

  -- a number is as often a cell as what it lacks to the ends
  even-count : (xs : List ℕ) (i : ℕ) → IsLabelling counts xs → i ≤ end → count_of i xs ≡ count_of (end - i) xs
  even-count xs i l h =
      as-first xs l i
      ∙ sym (count_of-reverse i first)
      ∙ ap (count_of i) first-faces.0
      ∙ count-reflected end i first h first-faces.1
      ∙ sym (as-first xs l (end - i))

  opposite-counts : (xs : List ℕ) → IsLabelling counts xs → SameCounts xs (map reflect_label xs)
  opposite-counts xs l i = elim (opposite-cases many end i) [
    | inl h ↦ even-count xs i l h.0.within ∙ ap (λ j. count_of j xs) (sym h.1) ∙ sym (count-opposite many end i xs)
    | inr h ↦ ap (λ j. count_of j xs) (sym h.1) ∙ sym (count-opposite many end i xs)
  ]

  opposite-labelling : (xs : List ℕ) → IsLabelling counts xs → IsLabelling counts (map reflect_label xs)
  opposite-labelling xs l = labelling_from_SameCounts counts xs (map reflect_label xs) (sym (length-map xs reflect_label)) (opposite-counts xs l) l

  told : (xs : List ℕ) → IsOver (sum counts) (length counts) xs → has_counts counts xs ≡ true → IsLabelling counts xs
  told xs o t = record { over = o; counted = same_text (counts_of (length counts) xs) counts (sym t) }

  tells : (xs : List ℕ) → IsLabelling counts xs → has_counts counts xs ≡ true
  tells xs l = rw l.counted (same_refl counts)

  opposite-over : (xs : List ℕ) → IsOver (sum counts) (length counts) xs → IsOver (sum counts) (length counts) (map reflect_label xs)
  opposite-over xs o = record { long = length-map xs reflect_label ∙ o.long; below = opposites-below many end xs o.below }

  same-counts : (xs : List ℕ) → IsOver (sum counts) (length counts) xs → has_counts counts xs ≡ has_counts counts (map reflect_label xs)
  same-counts xs o =
      alike (has_counts counts xs) (has_counts counts (map reflect_label xs))
      (λ t. tells (map reflect_label xs) (opposite-labelling xs (told xs o t)))
      (λ t. tells xs (subst (IsLabelling counts) (opposites-back many end xs) (opposite-labelling (map reflect_label xs) (told (map reflect_label xs) (opposite-over xs o) t))))

  -- a sum over all arrangements goes by those from the other end
  pub labellings-opposite : (h : List ℕ → ℕ) → sum_by h (labellings counts) ≡ sum_by (λ xs. h (map reflect_label xs)) (labellings counts)
  labellings-opposite h =
      let all : List (List ℕ) = lists_over (sum counts) (length counts) in
      sum_by-filter h (has_counts counts) all
      ∙ lists-opposite many end (sum counts) (λ xs. cond (has_counts counts xs) (h xs) 0)
      ∙ sum_by-same_where (IsOver (sum counts) (length counts)) (λ xs. cond (has_counts counts (map reflect_label xs)) (h (map reflect_label xs)) 0) (λ xs. cond (has_counts counts xs) (h (map reflect_label xs)) 0)
      (λ xs o. ap (λ b. cond b (h (map reflect_label xs)) 0) (sym (same-counts xs o))) all (lists_over-each (sum counts) (length counts))
      ∙ sym (sum_by-filter (λ xs. h (map reflect_label xs)) (has_counts counts) all)

  -- ---- arrangements from the other end

  each-opposite : (xs : List ℕ) → IsLabelling counts xs → AllByRecursion (HasOpposite (length counts) (end_sum counts)) xs
  each-opposite xs l = all_counted (HasOpposite many end) xs (λ i some. faced i some (holds_where_counted (λ v. v ≤ end) i xs (cells-within xs l) some))
    where
      faced : (i : ℕ) → 1 ≤ count_of i xs → i ≤ end → HasOpposite many end i
      faced i some h = record {
        below = holds_where_counted (λ v. v < many) i xs l.over.below some;
        within = h;
        back = holds_where_counted (λ v. v < many) (end - i) xs l.over.below (omega (arith, some, even-count xs i l h));
      }

  reflected-is : (xs : List ℕ) → AllByRecursion (HasOpposite (length counts) (end_sum counts)) xs → map reflect_label xs ≡ reflected (end_sum counts) xs
  reflected-is [] a = refl
  reflected-is (x ∷ xs) a = elim (opposite-cases many end x) [
    | inl h ↦ ap (λ l. l ∷ map reflect_label xs) h.1 ∙ ap (λ ls. (end - x) ∷ ls) (reflected-is xs a.1)
    | inr h ↦ absurd (h.0 a.0)
  ]

  pub reflection-is : (xs : List ℕ) → IsLabelling counts xs → map reflect_label xs ≡ reflected (end_sum counts) xs
  reflection-is xs l = reflected-is xs (each-opposite xs l)

  -- twice the sum of a block's cells
  pub even-sum : (xs : List ℕ) → IsLabelling counts xs → 2 * sum xs ≡ length xs * end_sum counts
  even-sum xs l =
      let same : sum (map reflect_label xs) ≡ sum xs =
      sum-counted (length counts) (map reflect_label xs) (opposites-below many end xs l.over.below)
      ∙ sum_by-same (λ i. i * count_of i (map reflect_label xs)) (λ i. i * count_of i xs) (λ i. ap (λ n. i * n) (sym (opposite-counts xs l i))) (range_with_len 0 (length counts))
      ∙ sym (sum-counted (length counts) xs l.over.below) in
      omega (arith, sum-reflected end xs (cells-within xs l), ap sum (reflection-is xs l), same)
