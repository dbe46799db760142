-- The number that digits write, and its digits without the zeros at the end.
use Rattle.std.proofs.Common.{◌≡◌, ℕ, zero, suc, ◌+◌, ◌-◌, ◌*◌, ◌<◌, ◌≤◌, true, List, [], ◌∷◌, length, get_or, take, refl, ap, ◌∙◌, ◌++◌, ◌≢◌, ◌^◌, ◌%◌, IsTrue, add-one, add-zero, arith, inl, inr, le_refl, le_trans, min, mul-one, mul_assoc, mul_comm, pow-suc, replicate, subst, sym}
use Rattle.std.proofs.lemmas.Bool.{and_from, and_parts, cases_lt}
use Rattle.std.proofs.lemmas.Bool.Decides.{nat_tests}
use Rattle.std.proofs.lemmas.List.{nil_from_length, take_all}
use Rattle.std.proofs.lemmas.Nat.{pow-add}
use Rattle.std.specs.Char.{digit_value, is_ascii_digit}
use Rattle.number_text.specs.Numerals.{all_digits, decimal_value, decimal_value_after}
use Rattle.number_text.specs.Significands.{DropsZeros, IsSignificand}

-- a digit lies from `0` to `9`, and has its value from there
record IsDigit (byte : ℕ) : Type 0 where
  low : 48 ≤ byte
  high : byte ≤ 57
  value : digit_value byte ≡ byte - 48

IsDigit-from_test : (byte : ℕ) → is_ascii_digit byte ≡ true → IsDigit byte
IsDigit-from_test byte passes = record {
  low = grind (arith, nat_tests);
  high = grind (arith, nat_tests);
  value = grind (arith, nat_tests);
}

IsDigit_at : (text : List ℕ) (i : ℕ) → IsTrue (all_digits text) → i < length text → IsDigit (get_or text i 0)
IsDigit_at [] i numeric inside = absurd (omega arith)
IsDigit_at (byte ∷ rest) zero numeric inside = IsDigit-from_test byte (and_parts _ _ numeric).0
IsDigit_at (byte ∷ rest) (suc i) numeric inside = IsDigit_at rest i (and_parts _ _ numeric).1 (omega arith)

-- one digit more
pub decimal_value_more : (start : ℕ) (text : List ℕ) (i : ℕ) → IsTrue (all_digits text) → i < length text →
    decimal_value_after start (take (i + 1) text) ≡ decimal_value_after start (take i text) * 10 + (get_or text i 0 - 48)
decimal_value_more start [] i numeric inside = absurd (omega arith)
decimal_value_more start (byte ∷ rest) zero numeric inside =
    let digit = IsDigit-from_test byte (and_parts _ _ numeric).0 in
    ap (λ d. start * 10 + d) digit.value
decimal_value_more start (byte ∷ rest) (suc i) numeric inside =
    rw add-one (rw add-one at (decimal_value_more (start * 10 + digit_value byte) rest i (and_parts _ _ numeric).1 (omega arith)))

-- the digits of joined texts
all_digits-append : (xs ys : List ℕ) → IsTrue (all_digits (xs ++ ys)) → IsTrue (all_digits xs) × IsTrue (all_digits ys)
all_digits-append [] ys numeric = (refl, numeric)
all_digits-append (x ∷ xs) ys numeric =
    let parts = and_parts (is_ascii_digit x) (all_digits (xs ++ ys)) numeric in
    let rest = all_digits-append xs ys parts.1 in
    (and_from _ _ parts.0 rest.0, rest.1)

-- the number of joined texts
decimal_value_after-append : (start : ℕ) (xs ys : List ℕ) → decimal_value_after start (xs ++ ys) ≡ decimal_value_after (decimal_value_after start xs) ys
decimal_value_after-append start [] ys = refl
decimal_value_after-append start (x ∷ xs) ys = decimal_value_after-append (start * 10 + digit_value x) xs ys

-- zeros behind a number
decimal_value_after-zeros : (start n : ℕ) → decimal_value_after start (replicate n 48) ≡ start * 10 ^ n
decimal_value_after-zeros start zero = sym (mul-one start)
decimal_value_after-zeros start (suc n) =
    decimal_value_after-zeros (start * 10 + 0) n
    ∙ ap (λ m. m * 10 ^ n) (add-zero (start * 10))
    ∙ mul_assoc start 10 (10 ^ n)
    ∙ ap (λ m. start * m) (mul_comm 10 (10 ^ n) ∙ sym (pow-suc 10 n))

-- the last digit of a number is that of its text
last_digit_of : (start : ℕ) (text : List ℕ) → IsTrue (all_digits text) → 0 < length text → get_or text (length text - 1) 0 ≢ 48 → 0 < decimal_value_after start text % 10
last_digit_of start text numeric some last =
    let place : length text - 1 < length text = omega arith in
    let digit = IsDigit_at text (length text - 1) numeric place in
    let more = decimal_value_more start text (length text - 1) numeric place in
    let whole : take (length text - 1 + 1) text ≡ text = take_all _ text (omega arith) in
    let value = rw whole at more in
    omega (arith, digit.low, digit.high)

-- no digit makes a number less
le-decimal_value_after : (start : ℕ) (text : List ℕ) → start ≤ decimal_value_after start text
le-decimal_value_after start [] = le_refl start
le-decimal_value_after start (x ∷ xs) = le_trans (omega arith) (le-decimal_value_after (start * 10 + digit_value x) xs)

-- a start cut at the cap gives the same number, where that is cut too
capped_start : (cap start : ℕ) (text : List ℕ) → min (decimal_value_after (min start cap) text) cap ≡ min (decimal_value_after start text) cap
capped_start cap start text =
    elim (cases_lt start cap) [
      | inl below ↦ ap (λ n. min (decimal_value_after n text) cap) (omega arith)
      | inr past ↦
          let low = le-decimal_value_after (min start cap) text in
          let high = le-decimal_value_after start text in
          omega arith
    ]

-- zeros at the end are a power of ten
decimal_value_after-dropped : (start : ℕ) (digits kept : List ℕ) (n : ℕ) → DropsZeros digits kept n → decimal_value_after start digits ≡ decimal_value_after start kept * 10 ^ n
decimal_value_after-dropped start digits kept n dropped =
    ap (decimal_value_after start) dropped.zeros
    ∙ decimal_value_after-append start kept (replicate n 48)
    ∙ decimal_value_after-zeros (decimal_value_after start kept) n

-- digits that keep some of the fraction
pub significand_of_fraction : (cap n : ℕ) (whole fraction kept : List ℕ) → IsTrue (all_digits fraction) → DropsZeros fraction kept n → 0 < length kept →
    IsSignificand cap (decimal_value (whole ++ fraction)) (min (decimal_value_after (min (decimal_value whole) cap) kept) cap) n
significand_of_fraction cap n whole fraction kept numeric dropped some = record {
  exact = decimal_value_after (decimal_value whole) kept;
  value_is = decimal_value_after-append 0 whole fraction ∙ decimal_value_after-dropped (decimal_value whole) fraction kept n dropped;
  digits_are = capped_start cap (decimal_value whole) kept;
  last_digit = λ exact_some. last_digit_of (decimal_value whole) kept (all_digits-append kept (replicate n 48) (rw dropped.zeros at numeric)).0 some (dropped.last some);
}

-- digits of which the fraction keeps none
pub significand_of_whole : (cap m n : ℕ) (whole fraction kept none : List ℕ) → IsTrue (all_digits whole) → DropsZeros whole kept m → DropsZeros fraction none (n - length none) → length none ≡ 0 →
    IsSignificand cap (decimal_value (whole ++ fraction)) (min (decimal_value kept) cap) (m + n)
significand_of_whole cap m n whole fraction kept none numeric dropped none_dropped empty = record {
  exact = decimal_value kept;
  value_is =
      decimal_value_after-append 0 whole fraction
      ∙ decimal_value_after-dropped (decimal_value whole) fraction none n (subst (DropsZeros fraction none) all none_dropped)
      ∙ ap (λ digits. decimal_value_after (decimal_value whole) digits * 10 ^ n) (nil_from_length none empty)
      ∙ ap (λ value. value * 10 ^ n) (decimal_value_after-dropped 0 whole kept m dropped)
      ∙ mul_assoc (decimal_value kept) (10 ^ m) (10 ^ n)
      ∙ ap (λ power. decimal_value kept * power) (sym (pow-add 10 m n));
  digits_are = refl;
  last_digit = last_kept kept (all_digits-append kept (replicate m 48) (rw dropped.zeros at numeric)).0 dropped.last;
}
  where
    all : n - length none ≡ n
    all = omega arith

    last_kept : (digits : List ℕ) → IsTrue (all_digits digits) → (0 < length digits → get_or digits (length digits - 1) 0 ≢ 48) → 0 < decimal_value digits → 0 < decimal_value digits % 10
    last_kept [] all last some = absurd (omega arith)
    last_kept (x ∷ xs) all last some = last_digit_of 0 (x ∷ xs) all (omega arith) (last (omega arith))
