-- The values of a file that is read make pairs.
use Rattle.std.proofs.Common.{◌≡◌, ◌⊎◌, inl, inr, ℕ, zero, suc, ◌+◌, ◌*◌, ◌<◌, ◌≤◌, ◌^◌, ℤ, ◌-ℤ◌, nat_abs, List, [], ◌∷◌, ◌++◌, length, take, get_or, Ok, refl, sym, ap, ◌∙◌, arith, add-one}
use Rattle.std.proofs.lemmas.Int.{ints}
use Rattle.std.proofs.lemmas.Bool.Decides.{nat_tests}
use Rattle.std.proofs.lemmas.List.{length_push}
use Rattle.record_reader.specs.declared.missing.Missing.{Missing}
use Rattle.record_reader.specs.declared.picks.Picks.{Picks}
use Rattle.sample_reader.specs.CellLayouts.{PairValues, no_pairs, pair_layout, pair_shape, second_less_first, with_pair_value}
use Rattle.sample_reader.specs.Kept.{AreDifferences, AreInRange, AreWholePairs}
use Rattle.record_reader.specs.Layouts.{MayPick, field_fault, read_in, text_of, with_fields}
use Rattle.sample_reader.specs.Values.{value_in}
use Rattle.record_reader.proofs.LayoutLemmas.{IsRead, and_then-ok, picked-many, read_in-ok, with_fault-ok, with_rows-keep, with_value-ok}

-- ---- the values

-- rows have one field and no second value, or two fields and each a second value
abbrev OneOrTwo : ℕ → ℕ → ℕ → Type 0
OneOrTwo width rows many = (width ≡ 1) × (many ≡ 0) ⊎ (width ≡ 2) × (many ≡ rows)

-- what is true of the values of so many rows of so many fields
record HaveRows (width rows : ℕ) (pairs : PairValues) : Type 0 where
  pub first : length pairs.first ≡ rows
  pub second : OneOrTwo width rows (length pairs.second)

pub one_value : (number place field : ℕ) (fields : List ℕ) (row : List (List ℕ)) (s t : PairValues) → with_fields pair_layout number row place (field ∷ fields) s ≡ Ok t
    → (value : ℤ) × (with_fields pair_layout number row (place + 1) fields (with_pair_value place s value) ≡ Ok t)
one_value number place field fields row s t e =
    let next = and_then-ok (with_fields pair_layout number row (place + 1) fields) _ t e in
    let value = with_value-ok (with_pair_value place s) (value_in (text_of row field)) next.0 (with_fault-ok (field_fault number field) _ next.0 next.1) in
    (value.0, rw value.2 next.2)

one_row : (number rows : ℕ) (fields : List ℕ) (row : List (List ℕ)) (s t : PairValues) → 1 ≤ length fields → length fields ≤ 2 → HaveRows (length fields) rows s
    → with_fields pair_layout number row 0 fields s ≡ Ok t → HaveRows (length fields) (rows + 1) t
one_row number rows [] row s t some few have e = absurd (omega arith)
one_row number rows (a ∷ []) row s t some few have e =
    let value = one_value number 0 a [] row s t e in
    let same : with_pair_value 0 s value.0 ≡ t = let k = value.1 in cc in
    rw (← same) (record { first = length_push s.first value.0 ∙ ap (λ n. n + 1) have.first; second = by have.second })
  where
    by : OneOrTwo 1 rows (length s.second) → OneOrTwo 1 (rows + 1) (length s.second)
    by (inl none) = inl none
    by (inr two) = absurd (omega (arith, two.0))
one_row number rows (a ∷ b ∷ []) row s t some few have e =
    let first = one_value number 0 a (b ∷ []) row s t e in
    let second = one_value number 1 b [] row (with_pair_value 0 s first.0) t first.1 in
    let same : with_pair_value 1 (with_pair_value 0 s first.0) second.0 ≡ t = let k = second.1 in cc in
    rw (← same) (record { first = length_push s.first first.0 ∙ ap (λ n. n + 1) have.first; second = by second.0 have.second })
  where
    by : (y : ℤ) → OneOrTwo 2 rows (length s.second) → OneOrTwo 2 (rows + 1) (length (s.second ++ y ∷ []))
    by y (inl none) = absurd (omega (arith, none.0))
    by y (inr two) = inr (refl, length_push s.second y ∙ ap (λ n. n + 1) two.1)
one_row number rows (a ∷ b ∷ d ∷ fields) row s t some few have e = absurd (omega arith)

one_or_two : (width : ℕ) → 1 ≤ width → width ≤ 2 → OneOrTwo width 0 0
one_or_two zero some few = absurd (omega arith)
one_or_two (suc zero) some few = inl (refl, refl)
one_or_two (suc (suc zero)) some few = inr (refl, refl)
one_or_two (suc (suc (suc n))) some few = absurd (omega arith)

whole : (missing : Missing) (picks : Picks) (rows : List (List (List ℕ))) (pairs : PairValues) (fields : List ℕ) → MayPick 1 2 picks → IsRead pair_layout missing picks rows pairs fields → AreWholePairs pairs
whole missing picks rows pairs fields may read =
    let many = picked-many pair_shape picks (length read.header) fields may read.fields_are in
    let none : HaveRows (length fields) 0 no_pairs = record { first = refl; second = one_or_two (length fields) many.0 many.1 } in
    let kept = with_rows-keep pair_layout missing (length read.header) fields (HaveRows (length fields)) (λ number n row s t have e. one_row number n fields row s t many.0 many.1 have e)
    2 0 read.rest no_pairs pairs (omega arith) none read.rows_say in
    record {
      not_empty = let test = read.enough in grind (arith, nat_tests);
      few_enough = omega (arith, kept.few, kept.all, kept.holds.first);
      one_or_two = by kept.holds.first kept.holds.second;
    }
  where
    by : {width n : ℕ} → length pairs.first ≡ n → OneOrTwo width n (length pairs.second)
        → (length pairs.second ≡ 0) ⊎ (length pairs.first ≡ length pairs.second)
    by first (inl none) = inl none.1
    by first (inr two) = inr (first ∙ sym two.1)

pub read_in-whole : (missing : Missing) (picks : Picks) (rows : List (List (List ℕ))) (pairs : PairValues) → MayPick 1 2 picks → read_in pair_layout missing picks rows ≡ Ok pairs → AreWholePairs pairs
read_in-whole missing picks rows pairs may e = let read = read_in-ok pair_layout missing picks rows pairs e in whole missing picks rows pairs read.0 may read.1

-- ---- the differences

less-more : (first second : List ℤ) (i : ℕ) (d e : ℤ) → i < length first → i < length second
    → second_less_first (take (suc i) first) (take (suc i) second) ≡ second_less_first (take i first) (take i second) ++ (get_or second i e -ℤ get_or first i d) ∷ []
less-more [] second i d e lt lt' = absurd (omega arith)
less-more (x ∷ first) [] i d e lt lt' = absurd (omega arith)
less-more (x ∷ first) (y ∷ second) zero d e lt lt' = refl
less-more (x ∷ first) (y ∷ second) (suc i) d e lt lt' = ap (λ rest. (y -ℤ x) ∷ rest) (less-more first second i d e (omega arith) (omega arith))

pub second_less_first-more : (first second : List ℤ) (i : ℕ) (d e : ℤ) → i < length first → i < length second
    → second_less_first (take (i + 1) first) (take (i + 1) second) ≡ second_less_first (take i first) (take i second) ++ (get_or second i e -ℤ get_or first i d) ∷ []
second_less_first-more first second i d e lt lt' = rw add-one (less-more first second i d e lt lt')

difference-below : (x y : ℤ) → nat_abs x < 10 ^ 36 → nat_abs y < 10 ^ 36 → nat_abs (y -ℤ x) < 2 * 10 ^ 36
difference-below x y low high = omega (arith, ints)

-- what holds of each item, by the list
no_difference : AreDifferences []
no_difference k d within = absurd (omega arith)

more_differences : (difference : ℤ) (differences : List ℤ) → nat_abs difference < 2 * 10 ^ 36 → AreDifferences differences → AreDifferences (difference ∷ differences)
more_differences difference differences small below zero d within = small
more_differences difference differences small below (suc k) d within = below k d (omega arith)

rest-below : (x : ℤ) (values : List ℤ) → AreInRange (x ∷ values) → AreInRange values
rest-below x values below k d within = below (suc k) d (omega arith)

pub differences-below : (first second : List ℤ) → AreInRange first → AreInRange second → AreDifferences (second_less_first first second)
differences-below [] second low high = no_difference
differences-below (x ∷ first) [] low high = no_difference
differences-below (x ∷ first) (y ∷ second) low high =
    more_differences (y -ℤ x) (second_less_first first second) (difference-below x y (low 0 x (omega arith)) (high 0 y (omega arith))) (differences-below first second (rest-below x first low) (rest-below y second high))

pub length-second_less_first : (first second : List ℤ) → length first ≡ length second → length (second_less_first first second) ≡ length first
length-second_less_first [] second e = refl
length-second_less_first (x ∷ first) [] e = absurd (omega arith)
length-second_less_first (x ∷ first) (y ∷ second) e = let rest = length-second_less_first first second (omega arith) in omega (arith, rest)
